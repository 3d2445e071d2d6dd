-- The files that a settlement sets aside, and what stands where their places go.
use Rattle.std.proofs.Common.{◌≡◌, ℕ, true, false, List, [], ◌∷◌, ◌++◌, refl, sym, ap, ◌∙◌, inl, inr, subst}
use Rattle.std.specs.List.{Contains}
use Rattle.std.specs.Fmt.{decimal}
use Rattle.std.specs.declared.option.Option.{Option}
use Rattle.std.specs.declared.option.Option.TheVariants.{Some}
use Rattle.tree_fs.specs.declared.name.Kind.TheVariants.{Absent, File}
use Rattle.tree_fs.specs.declared.place.Root.TheVariants.{Keep}
use Rattle.tree_fs.specs.Spot.{Spot, IsBelow}
use Rattle.tree_fs.specs.Places.{game_spot}
use Rattle.tree_fs.specs.Texts.{root_word}
use Rattle.tree_fs.specs.Disk.{Disk, none, kind_of}
use Rattle.tree_fs.proofs.KindOf.{kind-absent, kind-folder, absent-kind}
use Rattle.tree_fs.proofs.Below.{none_below, no_folder_below}
use Rattle.backup_keep.specs.Places.{aside_folder, aside_spot}
use Rattle.manifest_json.specs.declared.manifest.Row.{Row}
use Rattle.manifest_json.specs.declared.manifest.Manifest.{Manifest}
use Rattle.change_detect.specs.Classes.{staged_of}
use Rattle.desk_model.specs.Places.{Names, in_aside}
use Rattle.desk_model.specs.Settled.{Choice, Deed, left_whole, put_aside, imported, reverted, accepted, linked_again, staged_again, let_go, dropped, deed_of}
use Rattle.desk_model.proofs.Cases.{head_is}
use Rattle.plan_model.specs.Rows.{from_backup}
use Rattle.plan_model.specs.Moves.{Moves}
use Rattle.plan_model.specs.Sound.{Backs}
use Rattle.plan_model.proofs.Values.{HasFile}
use Rattle.purge_run.proofs.Premises.{AsideReady}
use Rattle.purge_run.proofs.Held.{next_absent}
use Rattle.change_settle.specs.Deeds.{game_move, stage_move, saved_spot, settle_moves}
use Rattle.change_settle.specs.Refusals.{SetsSomeAside}
use Rattle.change_settle.specs.Plans.{CanSettle}
use Rattle.change_settle.proofs.Premises.{told_at, kind_has_file}
use Rattle.change_settle.proofs.Sets.{game_set, stage_set}
use Rattle.change_settle.proofs.RowPlaces.{RowPlace, in_game, in_mod, the_root, inside, above_aside}

module _ (choice : Choice) (a : Disk) (old : Manifest) (n : ℕ) (can : CanSettle choice a old n) where
  abbrev m : Moves
  m = settle_moves choice a old.rows n

  -- the number is free, and a place below it can be made
  pub ready : (r : Row) (y : Spot) → Contains old.rows r → saved_spot r (deed_of choice a r) ≡ Some y → AsideReady a n
  ready r y c e =
      let some : SetsSomeAside choice a old.rows = record { row = r; listed = c; origin = y; saved = e } in
      let aside = can.passes.aside some in
      record { next = can.next some; folder = aside.may_be_made; room = aside.room }

  -- what is set aside is a file at the place of a row, which is set, so that its file stays aside
  pub record Origin (y : Spot) : Type 0 where
    pub place : RowPlace old.rows y
    pub file : HasFile (a.now y)
    pub back : Backs m y (aside_spot n y)

  pub origin : (r : Row) (y : Spot) → Contains old.rows r → saved_spot r (deed_of choice a r) ≡ Some y → Origin y
  origin r y c e = by_deed (deed_of choice a r) refl e
    where
      of_some : (x : Spot) → Some x ≡ Some y → x ≡ y
      of_some x h = cc

      found : (from : Option Spot) → m.sets (game_spot r.path) ≡ Some (record { from = from; back = Some (aside_spot n (game_spot r.path)) }) → kind_of a (game_spot r.path) ≡ File → game_spot r.path ≡ y → Origin y
      found from set k is = subst Origin is (record {
        place = in_game r c refl;
        file = kind_has_file a (game_spot r.path) k;
        back = record { move = record { from = from; back = Some (aside_spot n (game_spot r.path)) }; set = set; back = refl };
      })

      by_deed : (d : Deed) → deed_of choice a r ≡ d → saved_spot r d ≡ Some y → Origin y
      by_deed left_whole is h = absurd (cc)
      by_deed accepted is h = absurd (cc)
      by_deed linked_again is h = absurd (cc)
      by_deed staged_again is h = absurd (cc)
      by_deed dropped is h = absurd (cc)
      by_deed put_aside is h = found (Some (staged_of r)) (game_set choice a old n can r c ∙ ap (game_move a n r) is) (told_at choice a old n can r c put_aside is).here (of_some (game_spot r.path) h)
      by_deed reverted is h = found (Some (staged_of r)) (game_set choice a old n can r c ∙ ap (game_move a n r) is) (told_at choice a old n can r c reverted is).here (of_some (game_spot r.path) h)
      by_deed let_go is h = found (from_backup a r) (game_set choice a old n can r c ∙ ap (game_move a n r) is) (told_at choice a old n can r c let_go is).here (of_some (game_spot r.path) h)
      by_deed imported is h = subst Origin (of_some (staged_of r) h) (record {
        place = in_mod r c refl;
        file = kind_has_file a (staged_of r) (told_at choice a old n can r c imported is).staged;
        back = record {
          move = record { from = Some (game_spot r.path); back = Some (aside_spot n (staged_of r)) };
          set = stage_set choice a old n can r c ∙ ap (stage_move n r) is;
          back = refl;
        };
      })

  -- the place where it is set aside

  abbrev folder : Spot
  folder = in_aside (decimal n ∷ [])

  under : (y : Spot) → IsBelow folder (aside_spot n y)
  under y = record { root = refl; name = root_word y.root; rest = y.names; names = refl }

  pub aside_none : (y : Spot) → AsideReady a n → a.now (aside_spot n y) ≡ none
  aside_none y is = none_below a can.valid folder (aside_spot n y) (under y) (kind-absent a folder (next_absent a n is)).0

  pub aside_absent : (y : Spot) → AsideReady a n → kind_of a (aside_spot n y) ≡ Absent
  aside_absent y is =
      let k = kind-absent a folder (next_absent a n is) in
      absent-kind a (aside_spot n y) (no_folder_below a can.valid folder (aside_spot n y) (under y) k.0) (aside_none y is)

  -- a missing folder above it holds nothing
  over_aside : (y : Spot) (s : Spot) (ms : Names) (name : List ℕ) (rest : Names) → AsideReady a n → s ≡ in_aside ms → decimal n ∷ root_word y.root ∷ y.names ≡ ms ++ name ∷ rest → a.folders s ≡ false → a.now s ≡ none
  over_aside y s [] name rest is here e missing = elim is.folder [
    | inl k ↦ ap a.now here ∙ (kind-absent a aside_folder k).1
    | inr k ↦ let u : true ≡ false = sym (kind-folder a aside_folder k) ∙ ap a.folders (sym here) ∙ missing in absurd (cc)
  ]
  over_aside y s (z ∷ []) name rest is here e missing =
      let first = head_is (decimal n) z (root_word y.root ∷ y.names) (name ∷ rest) e in
      ap a.now (here ∙ ap (λ w. in_aside (w ∷ [])) (sym first)) ∙ (kind-absent a folder (next_absent a n is)).1
  over_aside y s (z ∷ w ∷ ws) name rest is here e missing =
      let first = head_is (decimal n) z (root_word y.root ∷ y.names) (w ∷ (ws ++ name ∷ rest)) e in
      ap a.now (here ∙ ap (λ v. in_aside (v ∷ w ∷ ws)) (sym first))
      ∙ none_below a can.valid folder (in_aside (decimal n ∷ w ∷ ws)) (record { root = refl; name = w; rest = ws; names = refl }) (kind-absent a folder (next_absent a n is)).0

  pub above_none : (y s : Spot) → AsideReady a n → IsBelow s (aside_spot n y) → a.folders s ≡ false → a.now s ≡ none
  above_none y s is b missing = elim (above_aside s (decimal n ∷ root_word y.root ∷ y.names) b) [
    | the_root e ↦ let u : true ≡ false = sym (can.valid.roots Keep) ∙ ap a.folders (sym e) ∙ missing in absurd (cc)
    | inside ms name rest here e ↦ over_aside y s ms name rest is here e missing
  ]
