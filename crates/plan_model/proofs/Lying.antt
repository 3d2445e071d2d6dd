-- What lies where, told by a desk's own view.
use Rattle.std.proofs.Common.{◌≡◌, ℕ, if◌then◌else◌, List, map, refl, sym, ap, ◌∙◌, subst}
use Rattle.std.specs.List.{Contains}
use Rattle.std.specs.declared.option.Option.{Option}
use Rattle.std.specs.declared.option.Option.TheVariants.{None, Some}
use Rattle.rel_paths.specs.Names.{names_of, backup_names}
use Rattle.tree_fs.specs.declared.place.Root.{Root}
use Rattle.tree_fs.specs.declared.place.Root.TheVariants.{Stage, Game, Keep}
use Rattle.tree_fs.specs.Spot.{Spot, IsBelow}
use Rattle.tree_fs.specs.Places.{game_spot}
use Rattle.tree_fs.specs.Disk.{Value, none, file, odd}
use Rattle.manifest_json.specs.declared.manifest.Row.{Row}
use Rattle.backup_keep.specs.Places.{backup_spot}
use Rattle.desk_model.specs.Places.{Names, in_game, IsUsers}
use Rattle.desk_model.specs.Records.{rows_of, row_at, row_behind}
use Rattle.desk_model.specs.Desk.{plain, plain_by, found, found_by, file_or_none, View, Desk, desk_of}
use Rattle.desk_model.specs.Folders.{lies_in_game, lies}
use Rattle.plan_model.proofs.Values.{HasFile, the_file, its_file}
use Rattle.plan_model.proofs.Firsts.{Rises, IsBehind, behind-some, row-some, row-here}
use Rattle.plan_model.proofs.Paths.{above_backup}

only_file : (v : Value) (n : ℕ) → file_or_none v ≡ file n → v ≡ file n
only_file none n e = absurd (cc)
only_file (file m) n e = e
only_file odd n e = absurd (cc)

module _ (v : View) (rise : Rises (map (λ r. r.path) (rows_of v.manifest))) (files : (r : Row) → Contains (rows_of v.manifest) r → HasFile (v.values (game_spot r.path))) where
  abbrev rows : List Row
  rows = rows_of v.manifest

  abbrev k : Desk
  k = desk_of v

  data Lying (x : Spot) : Type 0 where
    same : lies k x ≡ v.values x → Lying x
    behind : (r : Row) → Contains rows r → backup_spot r.path ≡ x → lies k x ≡ file_or_none (v.values x) → Lying x

  row_lies : (p : Names) (r : Row) → row_at rows p ≡ Some r → k.found p ≡ v.values (in_game p)
  unfolding found
  row_lies p r e =
      let f = row-some rows p r e in
      ap (λ o. found_by o (v.values (in_game p))) e ∙ its_file (v.values (in_game p)) (subst (λ q. HasFile (v.values (in_game q))) f.1 (files r f.0))

  behind_lies : (p : Names) (s : Row) → IsBehind rows p s → k.plain (names_of s.path) ≡ file_or_none (v.values (in_game p))
  unfolding plain
  behind_lies p s h =
      ap (λ o. plain_by o (row_behind rows (names_of s.path)) (v.values (in_game (names_of s.path))) (v.values (in_game (backup_names (names_of s.path))))) (row-here rows s rise h.listed)
      ∙ ap (λ b. if b then file_or_none (v.values (in_game (backup_names (names_of s.path)))) else none) h.shadowed
      ∙ ap (λ q. file_or_none (v.values (in_game q))) h.here

  else_lies : (p : Names) → row_at rows p ≡ None → row_behind rows p ≡ None → k.plain p ≡ v.values (in_game p)
  unfolding plain
  else_lies p e f = λ i. plain_by (e i) (f i) (v.values (in_game p)) (v.values (in_game (backup_names p)))

  in_game_lying : (p : Names) (o s : Option Row) → row_at rows p ≡ o → row_behind rows p ≡ s → Lying (in_game p)
  in_game_lying p (Some r) s e f = same ((λ i. lies_in_game k p (e i) (row_behind rows p)) ∙ row_lies p r e)
  in_game_lying p None (Some s) e f =
      let h = behind-some rows p s f in
      behind s h.listed (ap in_game h.here) ((λ i. lies_in_game k p (e i) (f i)) ∙ behind_lies p s h)
  in_game_lying p None None e f = same ((λ i. lies_in_game k p (e i) (f i)) ∙ else_lies p e f)

  lying : (x : Spot) → IsUsers x.root → Lying x
  lying x users = by_root x.root x.names users
    where
      by_root : (r : Root) (p : Names) → IsUsers r → Lying (record { root = r; names = p })
      by_root Stage p u = same refl
      by_root Game p u = in_game_lying p (row_at rows p) (row_behind rows p) refl refl
      by_root Keep p u = absurd u

  pub lies-value : (x : Spot) (n : ℕ) → IsUsers x.root → lies k x ≡ file n → v.values x ≡ file n
  lies-value x n users e = elim (lying x users) [ same h ↦ sym h ∙ e | behind r c is h ↦ only_file (v.values x) n (sym h ∙ e) ]

  pub value-lies : (x : Spot) (n : ℕ) → IsUsers x.root → v.values x ≡ file n → lies k x ≡ file n
  value-lies x n users e = elim (lying x users) [ same h ↦ h ∙ e | behind r c is h ↦ h ∙ ap file_or_none e ]

  pub none-lies : (x : Spot) → IsUsers x.root → v.values x ≡ none → lies k x ≡ none
  none-lies x users e = elim (lying x users) [ same h ↦ h ∙ e | behind r c is h ↦ h ∙ ap file_or_none e ]

  -- below a folder with nothing in the desk there is nothing at all
  pub lies-none : (s : Spot) → IsUsers s.root → ((x : Spot) → IsBelow s x → lies k x ≡ none) → (x : Spot) → IsBelow s x → v.values x ≡ none
  lies-none s users empty x below = elim (lying x (subst IsUsers (sym below.root) users)) [
    | same h ↦ sym h ∙ empty x below
    | behind r c is h ↦ absurd (its_row r (files r c) (above_backup s r.path (subst (IsBelow s) (sym is) below)))
  ]
    where
      its_row : (r : Row) → HasFile (v.values (game_spot r.path)) → IsBelow s (game_spot r.path) → ⊥
      its_row r (the_file n e) b = let t : none ≡ file n = sym (empty (game_spot r.path) b) ∙ value-lies (game_spot r.path) n tt e in cc
