-- The rows that a settlement and a deployment leave have sources apart again.
use Rattle.std.proofs.Common.{◌≡◌, ℕ, List, [], ◌∷◌, map, refl, sym, ◌∙◌, ap, subst, Bool, true, false, if◌then◌else◌}
use Rattle.std.specs.List.{AllByRecursion}
use Rattle.std.specs.Str.{bytes_eq}
use Rattle.std.specs.declared.option.Option.{Option}
use Rattle.std.specs.declared.option.Option.TheVariants.{None, Some}
use Rattle.std.proofs.lemmas.Slice.Eq.{bytes_eq-Decides}
use Rattle.rel_paths.specs.Names.{names_of}
use Rattle.rel_paths.proofs.Truths.{both}
use Rattle.tree_fs.specs.Disk.{Disk}
use Rattle.manifest_json.specs.declared.manifest.Row.{Row}
use Rattle.manifest_json.specs.Apart.{AreApart, HaveApartSources, HasApartSources}
use Rattle.desk_model.specs.Records.{rows_of, row_at, rows_on}
use Rattle.desk_model.specs.Desk.{desk}
use Rattle.desk_model.specs.Deployed.{Win, still_wins, made_row, row_by, won_row, Deployed}
use Rattle.desk_model.specs.Settled.{Choice, Deed, left_whole, put_aside, imported, reverted, accepted, linked_again, staged_again, let_go, dropped, deed_of, settled_row, some_rows, Settled}

-- one mod and one source
abbrev HasPlace : (mod_id source : List ℕ) → Row → Type 0
HasPlace id source r = (r.mod_id ≡ id) × (r.source ≡ source)

apart_too : (id source : List ℕ) (id_2 source_2 : List ℕ) (r s : Row) → HasPlace id source r → HasPlace id_2 source_2 s → (id ≡ id_2 → AreApart source source_2) → HaveApartSources r s
apart_too id source id_2 source_2 r s p q apart same = subst (λ t. AreApart t s.source) (sym p.1) (subst (AreApart source) (sym q.1) (apart (sym p.0 ∙ same ∙ q.0)))

of_some : (r s made : Row) → HasPlace r.mod_id r.source s → Some s ≡ Some made → HasPlace r.mod_id r.source made
of_some r s made p e = let h : s ≡ made = cc in subst (HasPlace r.mod_id r.source) h p

settled_place : (a : Disk) (r made : Row) (d : Deed) → settled_row a r d ≡ Some made → HasPlace r.mod_id r.source made
settled_place a r made left_whole e = let h : r ≡ made = cc in (ap (λ (q : Row). q.mod_id) (sym h), ap (λ (q : Row). q.source) (sym h))
settled_place a r made let_go e = absurd (cc)
settled_place a r made dropped e = absurd (cc)
settled_place a r made put_aside e = of_some r _ made (refl, refl) e
settled_place a r made imported e = of_some r _ made (refl, refl) e
settled_place a r made reverted e = of_some r _ made (refl, refl) e
settled_place a r made accepted e = of_some r _ made (refl, refl) e
settled_place a r made linked_again e = of_some r _ made (refl, refl) e
settled_place a r made staged_again e = of_some r _ made (refl, refl) e

module _ (a : Disk) (choice : Choice) where
  abbrev done : Row → Option Row
  done r = settled_row a r (deed_of choice a r)

  all_apart : (r made : Row) → HasPlace r.mod_id r.source made → (rs : List Row) → AllByRecursion (HaveApartSources r) rs → AllByRecursion (HaveApartSources made) (some_rows (map done rs))
  all_apart r made p [] all = tt
  all_apart r made p (s ∷ ss) all = by_row (all_apart r made p ss all.1) (done s) refl
    where
      by_row : AllByRecursion (HaveApartSources made) (some_rows (map done ss)) → (o : Option Row) → done s ≡ o → AllByRecursion (HaveApartSources made) (some_rows (o ∷ map done ss))
      by_row rest None e = rest
      by_row rest (Some t) e = (apart_too r.mod_id r.source s.mod_id s.source made t p (settled_place a s t (deed_of choice a s) e) all.0, rest)

  rows_apart : (rows : List Row) → HasApartSources rows → HasApartSources (some_rows (map done rows))
  rows_apart [] apart = tt
  rows_apart (r ∷ rs) apart = by_row (rows_apart rs apart.1) (done r) refl
    where
      by_row : HasApartSources (some_rows (map done rs)) → (o : Option Row) → done r ≡ o → HasApartSources (some_rows (o ∷ map done rs))
      by_row rest None e = rest
      by_row rest (Some t) e = (all_apart r t (settled_place a r t (deed_of choice a r) e) rs apart.0, rest)

-- a settlement of rows with sources apart
pub settled-apart : (a b : Disk) (choice : Choice) → HasApartSources (rows_on a) → Settled a choice (desk b) → HasApartSources (rows_on b)
settled-apart a b choice apart h = subst HasApartSources (sym (ap rows_of h.is_manifest ∙ h.rows)) (rows_apart a choice (rows_on a) apart)

-- winners of one mod come from sources that are apart: so it is with those of scans
abbrev pub HasApartWins : List Win → Type 0
HasApartWins [] = Unit {0}
HasApartWins (w ∷ ws) = AllByRecursion (λ (v : Win). w.mod_id ≡ v.mod_id → AreApart w.source v.source) ws × HasApartWins ws

won_place : (a : Disk) (w : Win) → HasPlace w.mod_id w.source (won_row a w)
won_place a w = by_row (row_at (rows_on a) (names_of w.path))
  where
    by_test : (r : Row) (t : Bool) → still_wins r w ≡ t → HasPlace w.mod_id w.source (if t then r else made_row a w r.shadowed)
    by_test r false e = (refl, refl)
    by_test r true e = let h = both (bytes_eq r.mod_id w.mod_id) _ e in ((bytes_eq-Decides r.mod_id w.mod_id).0 h.0, (bytes_eq-Decides r.source w.source).0 h.1)

    by_row : (o : Option Row) → HasPlace w.mod_id w.source (row_by a w o)
    by_row None = (refl, refl)
    by_row (Some r) = by_test r (still_wins r w) refl

all_won : (a : Disk) (w : Win) (ws : List Win) → AllByRecursion (λ (v : Win). w.mod_id ≡ v.mod_id → AreApart w.source v.source) ws → AllByRecursion (HaveApartSources (won_row a w)) (map (won_row a) ws)
all_won a w [] all = tt
all_won a w (v ∷ vs) all = (apart_too w.mod_id w.source v.mod_id v.source (won_row a w) (won_row a v) (won_place a w) (won_place a v) all.0, all_won a w vs all.1)

won_apart : (a : Disk) (ws : List Win) → HasApartWins ws → HasApartSources (map (won_row a) ws)
won_apart a [] apart = tt
won_apart a (w ∷ ws) apart = (all_won a w ws apart.0, won_apart a ws apart.1)

-- a deployment of such winners
pub deployed-apart : (a b : Disk) (wins : List Win) → HasApartWins wins → Deployed a wins (desk b) → HasApartSources (rows_on b)
deployed-apart a b wins apart h = subst HasApartSources (sym (ap rows_of h.is_manifest ∙ h.rows)) (won_apart a wins apart)
