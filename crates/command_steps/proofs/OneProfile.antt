-- A disk has one profile, and its mods one graph and one load order.
use Rattle.std.proofs.Common.{◌≡◌, ℕ, List, ◌∙◌, sym, ap}
use Rattle.std.specs.Prelude.{Ok, Err}
use Rattle.std.specs.Cmp.{IsTotalOrder}
use Rattle.std.specs.Cmp.Lexicographic.{nat_list_cmp_total}
use Rattle.std.specs.declared.option.Option.{Option}
use Rattle.std.specs.declared.option.Option.TheVariants.{None, Some}
use Rattle.std.specs.declared.result.Result.{Result}
use Rattle.std.proofs.lemmas.Cmp.{nat_cmp_total, on_total, then_total}
use Rattle.tree_fs.specs.Disk.{Disk}
use Rattle.list_laws.proofs.Alls.{all_item}
use Rattle.list_laws.proofs.Sorted.{sorted_same}
use Rattle.profile_toml.specs.declared.error.ProfileError.{ProfileError}
use Rattle.profile_toml.specs.Records.{ProfileData}
use Rattle.profile_toml.specs.Plain.{default_value}
use Rattle.mod_rules.specs.Edges.{GraphData, edge_cmp}
use Rattle.load_order.proofs.OneCycle.{taken_alone}
use Rattle.desk_model.specs.Records.{profile_text}
use Rattle.command_steps.specs.Mods.{IsMod, ListsMods}
use Rattle.command_steps.specs.Profiles.{ReadsAs, HasProfile, ReadsProfile, IsGraphOf, IsOrderOf}

pub one_mods : (d : Disk) (xs ys : List (List ℕ)) → ListsMods d xs → ListsMods d ys → xs ≡ ys
one_mods d xs ys a b = sorted_same nat_list_cmp_total xs ys a.order b.order
    (λ id there. b.whole id (all_item (IsMod d) xs id a.each there))
    (λ id there. a.whole id (all_item (IsMod d) ys id b.each there))

one_read_by : (d : Disk) (text : Option (List ℕ)) (a b : Result ProfileData ProfileError) → ReadsAs d text a → ReadsAs d text b → a ≡ b
one_read_by d (Some bytes) a b x y = x ∙ sym y
one_read_by d None a b x y = x.2 ∙ ap (λ ids. Ok (default_value ids)) (one_mods d x.0 y.0 x.1 y.1) ∙ sym y.2

-- the profile is read in one way
pub one_read : (d : Disk) (a b : Result ProfileData ProfileError) → ReadsProfile d a → ReadsProfile d b → a ≡ b
one_read d a b = one_read_by d (profile_text d) a b

of_ok : (p q : ProfileData) → ◌≡◌ {A = Result ProfileData ProfileError} (Ok p) (Ok q) → p ≡ q
of_ok p q e = cc

pub of_err : (e f : ProfileError) → ◌≡◌ {A = Result ProfileData ProfileError} (Err e) (Err f) → e ≡ f
of_err e f same = cc

no_ok : (p : ProfileData) (e : ProfileError) → ◌≡◌ {A = Result ProfileData ProfileError} (Ok p) (Err e) → ⊥
no_ok p e same = cc

pub one_profile : (d : Disk) (p q : ProfileData) → HasProfile d p → HasProfile d q → p ≡ q
one_profile d p q a b = of_ok p q (one_read d (Ok p) (Ok q) a b)

pub no_fault : (d : Disk) (p : ProfileData) (e : ProfileError) → HasProfile d p → ReadsProfile d (Err e) → ⊥
no_fault d p e a b = no_ok p e (one_read d (Ok p) (Err e) a b)

-- The graph and the order

edge_total : IsTotalOrder edge_cmp
edge_total = then_total (on_total (λ (e : ℕ × ℕ). e.0) nat_cmp_total) (on_total (λ (e : ℕ × ℕ). e.1) nat_cmp_total)

pub one_graph : (p : ProfileData) (g h : GraphData) → IsGraphOf p g → IsGraphOf p h → g ≡ h
one_graph p g h a b =
    let count : g.count ≡ h.count = a.count ∙ sym b.count in
    let edges : g.edges ≡ h.edges = sorted_same edge_total g.edges h.edges a.ascending b.ascending
    (λ e there. (b.edges e.0 e.1).1 ((a.edges e.0 e.1).0 there))
    (λ e there. (a.edges e.0 e.1).1 ((b.edges e.0 e.1).0 there)) in
    λ i. record { count = count i; edges = edges i }

pub one_order : (g : GraphData) (xs ys : List ℕ) → IsOrderOf g xs → IsOrderOf g ys → xs ≡ ys
one_order g xs ys a b = taken_alone g ys xs b.taken a.taken
