-- The new rows can be those of a manifest.
use Rattle.std.proofs.Common.{◌≡◌, ℕ, Bool, true, false, if◌then◌else◌, List, [], ◌∷◌, map, refl, sym, ◌∙◌, subst}
use Rattle.std.specs.List.{Contains, AllByRecursion}
use Rattle.std.specs.Str.{bytes_eq}
use Rattle.std.specs.declared.option.Option.{Option}
use Rattle.std.specs.declared.option.Option.TheVariants.{None, Some}
use Rattle.std.proofs.lemmas.Bool.{and_parts}
use Rattle.std.proofs.lemmas.Slice.Eq.{bytes_eq-Decides}
use Rattle.list_laws.proofs.Alls.{all_item, all_from_contains, all_map}
use Rattle.list_laws.proofs.Containing.{contains_here, contains_there}
use Rattle.rel_paths.specs.Names.{names_of, extends, IsFreePath, IsModId}
use Rattle.manifest_json.specs.declared.manifest.Row.{Row}
use Rattle.manifest_json.specs.Paths.{AreRising, AreFlat}
use Rattle.manifest_json.specs.Apart.{HaveApartSources, HasApartSources}
use Rattle.manifest_json.specs.Apart.{AreApart as AreApartSources}
use Rattle.manifest_json.specs.Sound.{IsRow, AreRows}
use Rattle.winner_table.specs.Folders.{AreApart}
use Rattle.tree_fs.specs.Disk.{Disk}
use Rattle.desk_model.specs.Records.{row_at}
use Rattle.desk_model.specs.Deployed.{Win, still_wins, made_row, row_by}
use Rattle.plan_model.proofs.Firsts.{row-some}
use Rattle.deploy_plan.specs.Wins.{won_paths, AreSoundWins, HasApartWins, CanBeRows}
use Rattle.deploy_plan.specs.Cases.{next_row}
use Rattle.deploy_plan.proofs.Premises.{win_free}
use Rattle.deploy_plan.proofs.Told.{won_path}

pub next_paths : (a : Disk) (rows : List Row) (wins ws : List Win) → map (λ (r : Row). r.path) (map (next_row a rows) ws) ≡ map (λ (w : Win). w.path) ws
next_paths a rows wins [] = refl
next_paths a rows wins (w ∷ ws) = λ i. won_path a rows wins w i ∷ next_paths a rows wins ws i

-- paths of which none lies below another are flat
pub apart_flat : (paths : List (List ℕ)) → AreApart paths → AreFlat paths
apart_flat [] apart = tt
apart_flat (p ∷ ps) apart = (
  all_from_contains (λ q. extends q p ≡ false) ps (λ q c. none q c (extends q p) refl),
  apart_flat ps (λ path c f. apart path (contains_there p path ps c) (record { below = f.below; among = contains_there p f.below ps f.among; extending = f.extending })),
)
  where
    none : (q : List ℕ) → Contains ps q → (b : Bool) → extends q p ≡ b → b ≡ false
    none q c false e = refl
    none q c true e = absurd (apart p (contains_here p ps) (record { below = q; among = contains_there p q ps c; extending = e }))

module _ (a : Disk) (rows : List Row) (kept : AreRows rows) where
  -- a row that is kept has the winner's mod and source
  record Keeps (w : Win) (r : Row) : Type 0 where
    its_mod : r.mod_id ≡ w.mod_id
    its_source : r.source ≡ w.source
    good : IsModId w.mod_id → IsFreePath w.source → IsFreePath w.path → IsRow r

  made : (w : Win) (s : Bool) → Keeps w (made_row a w s)
  made w s = record { its_mod = refl; its_source = refl; good = λ id source path. record { path = path; mod_id = id; source = source } }

  by_test : (w : Win) (r : Row) (b : Bool) → Contains rows r → still_wins r w ≡ b → Keeps w (if b then r else made_row a w r.shadowed)
  by_test w r false c e = made w r.shadowed
  by_test w r true c e =
      let h = and_parts (bytes_eq r.mod_id w.mod_id) (bytes_eq r.source w.source) e in
      record {
        its_mod = (bytes_eq-Decides r.mod_id w.mod_id).0 h.0;
        its_source = (bytes_eq-Decides r.source w.source).0 h.1;
        good = λ id source path. all_item IsRow rows r kept.good c;
      }

  keeps : (w : Win) → Keeps w (next_row a rows w)
  keeps w = by_row (row_at rows (names_of w.path)) refl
    where
      by_row : (o : Option Row) → row_at rows (names_of w.path) ≡ o → Keeps w (row_by a w o)
      by_row None e = made w _
      by_row (Some r) e = by_test w r (still_wins r w) (row-some rows (names_of w.path) r e).0 refl

  all_apart : (w : Win) (ws : List Win) → AllByRecursion (λ (v : Win). w.mod_id ≡ v.mod_id → AreApartSources w.source v.source) ws → AllByRecursion (HaveApartSources (next_row a rows w)) (map (next_row a rows) ws)
  all_apart w [] h = tt
  all_apart w (v ∷ vs) h =
      let k = keeps w in
      let l = keeps v in
      (λ same. subst (λ s. AreApartSources s (next_row a rows v).source) (sym k.its_source) (subst (AreApartSources w.source) (sym l.its_source) (h.0 (sym k.its_mod ∙ same ∙ l.its_mod))), all_apart w vs h.1)

  rows_apart : (ws : List Win) → HasApartWins ws → HasApartSources (map (next_row a rows) ws)
  rows_apart [] h = tt
  rows_apart (w ∷ ws) h = (all_apart w ws h.0, rows_apart ws h.1)

  pub rows_kept : (wins : List Win) → AreSoundWins a wins → CanBeRows wins → AreRows (map (next_row a rows) wins)
  rows_kept wins sound rights = record {
    good = all_map IsRow (next_row a rows) wins (all_from_contains (λ w. IsRow (next_row a rows w)) wins (λ w c.
        let h = all_item (λ (v : Win). IsModId v.mod_id × IsFreePath v.source) wins w rights.good c in
        (keeps w).good h.0 h.1 (win_free a wins sound w c)));
    rise = subst AreRising (sym (next_paths a rows wins wins)) sound.rise;
    flat = subst AreFlat (sym (next_paths a rows wins wins)) (apart_flat (won_paths wins) sound.apart);
    apart = rows_apart wins rights.apart;
  }
