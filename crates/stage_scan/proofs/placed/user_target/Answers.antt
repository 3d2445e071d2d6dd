use Rattle.std.proofs.Common.{◌≡◌, ℕ, List, Bor, IfSome, Some, option_map, ap, sym, ◌∙◌, subst, true≢false}
use Rattle.std.specs.declared.option.Option.{Option}
use Rattle.rel_paths.specs.Names.{IsBase}
use Rattle.stage_scan.proofs.Targets.{joined_held, is_target, target_free, no_target}
use Rattle.stage_scan.proofs.placed.user_target.Goals as goal

is_base : (base : Option (Bor (List ℕ))) (b : Bor (List ℕ)) → base ≡ Some b → IfSome base (λ b. IsBase b.now) → IsBase b.now
is_base base b is h = subst (λ o. IfSome o (λ b. IsBase b.now)) is h

pub join-requires : goal.join-requires
join-requires c = joined_held c.in-Some.base.now c.args.source.now (is_base c.args.base c.in-Some.base c.in-Some.is c.requires.base) c.requires.source

pub returns-then-is_user : goal.returns-then-is_user
returns-then-is_user c =
    let base = option_map (λ (b : Bor (List ℕ)). b.now) c.args.base in
    let is : base ≡ Some c.in-Some.base.now = ap (option_map (λ (b : Bor (List ℕ)). b.now)) c.in-Some.is in
    let at = is_target base c.in-Some.base.now c.args.source.now c.in_ok-path.path is c.in_ok-path.ensures in
    (at, target_free base c.in-Some.base.now c.args.source.now c.in_ok-path.path is at (is_base c.args.base c.in-Some.base c.in-Some.is c.requires.base) c.requires.source (c.is_user.ensures.0 c.if-is_user.true))

pub returns-else-is_user : goal.returns-else-is_user
returns-else-is_user c =
    let base = option_map (λ (b : Bor (List ℕ)). b.now) c.args.base in
    let is : base ≡ Some c.in-Some.base.now = ap (option_map (λ (b : Bor (List ℕ)). b.now)) c.in-Some.is in
    let at = is_target base c.in-Some.base.now c.args.source.now c.in_ok-path.path is c.in_ok-path.ensures in
    no_target base c.args.source.now c.in_ok-path.path at (λ user. true≢false (sym (c.is_user.ensures.1 user) ∙ c.if-is_user.false))
