use Rattle.std.proofs.Common.{◌≡◌, ℕ, List, false, true, None, Some, codes, [], ◌∷◌, is_some, option_map, unwrap_or, refl, ap, sym, subst, ◌∙◌}
use Rattle.toml.specs.Data.{get_member, same_key}
use Rattle.toml.specs.View.{view, table_view}
use Rattle.profile_toml.specs.declared.error.ProfileError.TheVariants.{Shape}
use Rattle.profile_toml.specs.Faults.{Reads, fault_if}
use Rattle.profile_toml.specs.Profiles.{version_at, fold_fault, parts_fault, parts_value, versioned_fault, document_value}
use Rattle.profile_toml.specs.Sound.{AreSound}
use Rattle.profile_toml.specs.Tables.{from_2, member_from_2}
use Rattle.profile_toml.specs.Unknown.{without_key, without}
use Rattle.profile_toml.proofs.Chains.{or_at, or_past}
use Rattle.profile_toml.proofs.DocumentFacts.{parts_fault_left, parts_value_left, unknown_left, no_fold_left}
use Rattle.profile_toml.proofs.Members.{AreSound-without_key, AreSound-from_2, get-gone, member_from_2-is, viewed}
use Rattle.profile_toml.proofs.read.read_sound.Goals as goal

pub returns-in_default : goal.returns-in_default
returns-in_default c =
    let ms = table_view c.args.table in
    let none : version_at (get_member (codes "version") ms) ≡ None = ap version_at (sym c.take.ensures.value) ∙ sym c.version_of.ensures.value ∙ c.in_default.is in
    λ n. ap (λ o. versioned_fault o ms) none

pub returns-then-is_some : goal.returns-then-is_some
returns-then-is_some c =
    let ms = table_view c.args.table in
    let version = c.in-Some.version in
    let is : version_at (get_member (codes "version") ms) ≡ Some version = ap version_at (sym c.take.ensures.value) ∙ sym c.version_of.ensures.value ∙ c.in-Some.is in
    let fold : member_from_2 version (codes "fold") ms ≡ option_map view c.take_from_2.result = sym (c.take_from_2.ensures.value ∙ member_from_2-is version (codes "fold") (table_view c.take.new.table) ms (c.take.ensures.others (codes "fold") refl)) in
    let there : is_some (member_from_2 version (codes "fold") ms) ≡ true = ap is_some fold ∙ viewed c.take_from_2.result ∙ sym c.is_some.ensures ∙ c.if-is_some.true in
    λ n. ap (λ o. versioned_fault o ms) is ∙ or_at (fold_fault version ms) (parts_fault version ms) _ (ap (λ b. fault_if b (Shape (codes "fold"))) there ∙ c.odd_at.ensures n)

pub read_parts-requires-clause-sound : goal.read_parts-requires-clause-sound
read_parts-requires-clause-sound c =
    subst (AreSound 63) (sym c.take_from_2.ensures.left) (AreSound-from_2 63 c.in-Some.version (codes "fold") (table_view c.take.new.table)
    (subst (AreSound 63) (sym c.take.ensures.left) (AreSound-without_key 63 (codes "version") (table_view c.args.table) c.requires)))

pub read_parts-requires-clause-no_version : goal.read_parts-requires-clause-no_version
read_parts-requires-clause-no_version c =
    c.take_from_2.ensures.others (codes "version") refl ∙ ap (get_member (codes "version")) c.take.ensures.left ∙ get-gone (codes "version") (table_view c.args.table)

pub read_parts-requires-clause-no_fold : goal.read_parts-requires-clause-no_fold
read_parts-requires-clause-no_fold c = no_fold_left c.in-Some.version (table_view c.take.new.table) (table_view c.take_from_2.new.table) c.take_from_2.ensures.left

pub returns : goal.returns
returns c =
    let ms = table_view c.args.table in
    let left = table_view c.take_from_2.new.table in
    let version = c.in-Some.version in
    let is : version_at (get_member (codes "version") ms) ≡ Some version = ap version_at (sym c.take.ensures.value) ∙ sym c.version_of.ensures.value ∙ c.in-Some.is in
    let fold : member_from_2 version (codes "fold") ms ≡ option_map view c.take_from_2.result = sym (c.take_from_2.ensures.value ∙ member_from_2-is version (codes "fold") (table_view c.take.new.table) ms (c.take.ensures.others (codes "fold") refl)) in
    let gone : is_some (member_from_2 version (codes "fold") ms) ≡ false = ap is_some fold ∙ viewed c.take_from_2.result ∙ sym c.is_some.ensures ∙ c.if-is_some.false in
    let others : (k : List ℕ) → same_key (codes "version") k ≡ false → same_key (codes "fold") k ≡ false → get_member k left ≡ get_member k ms = λ k a b. c.take_from_2.ensures.others k b ∙ c.take.ensures.others k a in
    let left_is : left ≡ without (from_2 version (codes "fold" ∷ [])) (without_key (codes "version") ms) = c.take_from_2.ensures.left ∙ ap (without (from_2 version (codes "fold" ∷ []))) c.take.ensures.left in
    let fault = ap (λ o. versioned_fault o ms) is ∙ or_past (fold_fault version ms) (parts_fault version ms) (ap (λ b. fault_if b (Shape (codes "fold"))) gone) ∙ sym (parts_fault_left version ms left others) in
    let value = ap (λ o. parts_value (unwrap_or o 1) ms) is ∙ sym (parts_value_left version ms left others (unknown_left version ms left left_is)) in
    subst (λ f. Reads f (document_value ms) c.read_parts.result) (sym fault) (subst (λ w. Reads (parts_fault version left) w c.read_parts.result) (sym value) c.read_parts.ensures)
