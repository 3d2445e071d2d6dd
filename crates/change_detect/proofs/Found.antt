-- The changes of the rows that were looked at so far.
use Rattle.std.proofs.Common.{◌≡◌, ℕ, ◌+◌, ◌<◌, List, [], ◌∷◌, ◌++◌, length, get_or, take, drop, suc, filter_map, option_to_list, refl, sym, ap, ◌∙◌}
use Rattle.std.specs.List.{cons_option}
use Rattle.std.specs.declared.option.Option.{Option}
use Rattle.std.specs.declared.option.Option.TheVariants.{None, Some}
use Rattle.std.proofs.lemmas.List.Elements.{filter_map-append}
use Rattle.list_laws.proofs.Lists.{around, one_more}
use Rattle.tree_fs.specs.Disk.{Disk}
use Rattle.manifest_json.specs.declared.manifest.Row.{Row}
use Rattle.change_choices.specs.declared.class.Class.{Class}
use Rattle.change_detect.specs.declared.changes.Change.{Change}
use Rattle.change_detect.specs.declared.error.ChangeError.{ChangeError}
use Rattle.change_detect.specs.declared.error.ChangeError.TheVariants.{Blocked, Failed, Memory}
use Rattle.change_detect.specs.Changes.{change_of, changes_by}
use Rattle.change_detect.specs.Refusals.{first_blocked, IsChangeRefusal}
use Rattle.change_detect.proofs.Blocking.{blocked_at, open_more}

one_option : (o : Option Change) → cons_option o [] ≡ option_to_list o
one_option None = refl
one_option (Some x) = refl

-- one row more
pub changes_more : (class : Row → Option Class) (rows : List Row) (i : ℕ) (r : Row) (old new : List Change) (o : Option Change) → i < length rows → r ≡ get_or rows i r
    → old ≡ changes_by class (take i rows) → o ≡ change_of r (class r) → new ≡ old ++ option_to_list o → new ≡ changes_by class (take (i + 1) rows)
changes_more class rows i r old new o lt is was told put =
    let change = λ (r : Row). change_of r (class r) in
    put ∙ (λ j. was j ++ option_to_list (told j)) ∙ ap (λ l. filter_map change (take i rows) ++ l) (sym (one_option (change r)))
    ∙ sym (filter_map-append change (take i rows) (r ∷ [])) ∙ ap (filter_map change) (sym (one_more rows i r lt is))

pub free_more : (d : Disk) (rows : List Row) (i : ℕ) (r : Row) → i < length rows → r ≡ get_or rows i r → first_blocked d (take i rows) ≡ None → first_blocked d (r ∷ []) ≡ None → first_blocked d (take (i + 1) rows) ≡ None
free_more d rows i r lt is none also = ap (first_blocked d) (one_more rows i r lt is) ∙ open_more d (take i rows) r none also

-- the row that is refused is the first one
pub refused_at : (d : Disk) (rows : List Row) (i : ℕ) (r : Row) (e : ChangeError) → i < length rows → r ≡ get_or rows i r → first_blocked d (take i rows) ≡ None → IsChangeRefusal d (r ∷ []) e → IsChangeRefusal d rows e
refused_at d rows i r (Blocked place) lt is none one = ap (first_blocked d) (around rows i r lt is) ∙ blocked_at d (take i rows) (drop (suc i) rows) r _ none one
refused_at d rows i r Failed lt is none one = tt
refused_at d rows i r Memory lt is none one = tt
