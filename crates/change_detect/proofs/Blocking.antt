-- The first place of rows that is a folder or odd.
use Rattle.std.proofs.Common.{◌≡◌, Bool, true, false, cond, List, [], ◌∷◌, ◌++◌, find, refl, ap, ◌∙◌}
use Rattle.std.specs.Option.{option_or}
use Rattle.std.specs.declared.option.Option.TheVariants.{None, Some}
use Rattle.std.proofs.lemmas.List.Concat.{flat_map-append}
use Rattle.std.proofs.lemmas.List.Folds.{find-append}
use Rattle.tree_fs.specs.Spot.{Spot}
use Rattle.tree_fs.specs.Places.{game_spot}
use Rattle.tree_fs.specs.Disk.{Disk, kind_of}
use Rattle.manifest_json.specs.declared.manifest.Row.{Row}
use Rattle.change_detect.specs.Classes.{staged_of}
use Rattle.change_detect.specs.Refusals.{is_blocking, places_of, first_blocked}

pub first_blocked-append : (d : Disk) (rows more : List Row) → first_blocked d (rows ++ more) ≡ option_or (first_blocked d rows) (first_blocked d more)
first_blocked-append d rows more =
    let test = λ (x : Spot). is_blocking (kind_of d x) in
    ap (find test) (flat_map-append (λ r. game_spot r.path ∷ staged_of r ∷ []) rows more) ∙ find-append test (places_of rows) (places_of more)

-- none in front of a row, and one of the row
pub blocked_at : (d : Disk) (rows more : List Row) (r : Row) (x : Spot) → first_blocked d rows ≡ None → first_blocked d (r ∷ []) ≡ Some x → first_blocked d (rows ++ r ∷ more) ≡ Some x
blocked_at d rows more r x none one =
    first_blocked-append d rows (r ∷ more) ∙ ap (λ o. option_or o (first_blocked d (r ∷ more))) none
    ∙ first_blocked-append d (r ∷ []) more ∙ ap (λ o. option_or o (first_blocked d more)) one

-- none in front of a row, and none of the row
pub open_more : (d : Disk) (rows : List Row) (r : Row) → first_blocked d rows ≡ None → first_blocked d (r ∷ []) ≡ None → first_blocked d (rows ++ r ∷ []) ≡ None
open_more d rows r none also = first_blocked-append d rows (r ∷ []) ∙ ap (λ o. option_or o (first_blocked d (r ∷ []))) none ∙ also

-- the first of a row's two places
by_first : (a b : Bool) (x y : Spot) → a ≡ true → cond a (Some x) (cond b (Some y) None) ≡ Some x
by_first true b x y e = refl
by_first false b x y e = let never : ⊥ = cc in absurd never

by_second : (a b : Bool) (x y : Spot) → a ≡ false → b ≡ true → cond a (Some x) (cond b (Some y) None) ≡ Some y
by_second false true x y e f = refl
by_second true b x y e f = let never : ⊥ = cc in absurd never
by_second false false x y e f = let never : ⊥ = cc in absurd never

by_none : (a b : Bool) (x y : Spot) → a ≡ false → b ≡ false → cond a (Some x) (cond b (Some y) None) ≡ None
by_none false false x y e f = refl
by_none true b x y e f = let never : ⊥ = cc in absurd never
by_none false true x y e f = let never : ⊥ = cc in absurd never

pub blocked_game : (d : Disk) (r : Row) → is_blocking (kind_of d (game_spot r.path)) ≡ true → first_blocked d (r ∷ []) ≡ Some (game_spot r.path)
blocked_game d r e = by_first (is_blocking (kind_of d (game_spot r.path))) (is_blocking (kind_of d (staged_of r))) (game_spot r.path) (staged_of r) e

pub blocked_staged : (d : Disk) (r : Row) → is_blocking (kind_of d (game_spot r.path)) ≡ false → is_blocking (kind_of d (staged_of r)) ≡ true → first_blocked d (r ∷ []) ≡ Some (staged_of r)
blocked_staged d r e f = by_second (is_blocking (kind_of d (game_spot r.path))) (is_blocking (kind_of d (staged_of r))) (game_spot r.path) (staged_of r) e f

pub not_blocked : (d : Disk) (r : Row) → is_blocking (kind_of d (game_spot r.path)) ≡ false → is_blocking (kind_of d (staged_of r)) ≡ false → first_blocked d (r ∷ []) ≡ None
not_blocked d r e f = by_none (is_blocking (kind_of d (game_spot r.path))) (is_blocking (kind_of d (staged_of r))) (game_spot r.path) (staged_of r) e f
