-- A command leads to one desk.
use Rattle.std.proofs.Common.{◌≡◌, ◌↔◌, ℕ, List, [], ◌∷◌, refl, sym, ap, ◌∙◌, inl, inr, subst}
use Rattle.std.specs.List.{Contains}
use Rattle.std.specs.List.Sorted.{IsStrictlySortedBy}
use Rattle.std.specs.Ordering.{nat_cmp}
use Rattle.std.specs.Cmp.Lexicographic.{slice_cmp}
use Rattle.std.specs.declared.cmp.Ordering.{Ordering}
use Rattle.std.specs.declared.cmp.Ordering.TheVariants.{Less}
use Rattle.tree_fs.specs.Spot.{Spot}
use Rattle.tree_fs.specs.Places.{game_spot}
use Rattle.tree_fs.specs.Disk.{Disk}
use Rattle.tree_fs.proofs.Lists.{all_item, contains_here, contains_there, contains_cases, contains_none}
use Rattle.desk_model.specs.Records.{recorded, rows_of, own_of}
use Rattle.desk_model.specs.Desk.{Desk, IsNamed, in_plain, in_found, in_staged, in_asides, SameDesk}
use Rattle.desk_model.specs.Folders.{FolderRule, OwnRule}
use Rattle.backup_keep.specs.Asides.{IsNextAside}
use Rattle.desk_model.specs.Deployed.{Win, Deployed}
use Rattle.desk_model.specs.Purged.{Purged}
use Rattle.desk_model.proofs.SameDesks.{SameLying, lying_sym, own_same, goes_same, there_same}
use Rattle.desk_model.specs.Settled.{Choice, Settled}
use Rattle.desk_model.proofs.NextAside.{next_number}
use Rattle.desk_model.specs.Edited.{Edited}
use Rattle.std.specs.declared.option.Option.{Option}
use Rattle.list_laws.proofs.Orders.{text_not_both}

abbrev Text : Type 0
Text = List ℕ

abbrev text_cmp : Text → Text → Ordering
text_cmp = slice_cmp nat_cmp

-- two rising lists with the same items are one
rising_same : (xs ys : List Text) → IsStrictlySortedBy text_cmp xs → IsStrictlySortedBy text_cmp ys → ((p : Text) → (Contains xs p ↔ Contains ys p)) → xs ≡ ys
unfolding IsStrictlySortedBy
rising_same [] [] sx sy same = refl
rising_same [] (y ∷ ys) sx sy same = absurd (contains_none y ((same y).1 (contains_here y ys)))
rising_same (x ∷ xs) [] sx sy same = absurd (contains_none x ((same x).0 (contains_here x xs)))
rising_same (x ∷ xs) (y ∷ ys) sx sy same = λ i. head i ∷ rising_same xs ys sx.1 sy.1 (λ p. (forth p, back p)) i
  where
    head : x ≡ y
    head = elim (contains_cases y x ys ((same x).0 (contains_here x xs))) [
      | inl is ↦ is
      | inr later ↦ elim (contains_cases x y xs ((same y).1 (contains_here y ys))) [
        | inl is ↦ sym is
        | inr too ↦ absurd (text_not_both x y (all_item _ xs y sx.0 too) (all_item _ ys x sy.0 later))
      ]
    ]

    forth : (p : Text) → Contains xs p → Contains ys p
    forth p c = elim (contains_cases y p ys ((same p).0 (contains_there x p xs c))) [
      | inl is ↦ let h = all_item _ xs p sx.0 c in let t = subst (λ q. text_cmp q p ≡ Less) (head ∙ sym is) h in absurd (text_not_both p p t t)
      | inr there ↦ there
    ]

    back : (p : Text) → Contains ys p → Contains xs p
    back p c = elim (contains_cases x p xs ((same p).1 (contains_there y p ys c))) [
      | inl is ↦ let h = all_item _ ys p sy.0 c in let t = subst (λ q. text_cmp q p ≡ Less) (sym head ∙ sym is) h in absurd (text_not_both p p t t)
      | inr there ↦ there
    ]

named_too : (k l : Desk) → k.plain ≡ l.plain → k.found ≡ l.found → k.staged ≡ l.staged → k.aside ≡ l.aside → (n : ℕ) → IsNamed k n → IsNamed l n
named_too k l p f s a n (in_plain q e) = in_plain q (ap (λ g. g q) (sym p) ∙ e)
named_too k l p f s a n (in_found q e) = in_found q (ap (λ g. g q) (sym f) ∙ e)
named_too k l p f s a n (in_staged q e) = in_staged q (ap (λ g. g q) (sym s) ∙ e)
named_too k l p f s a n (in_asides q e) = in_asides q (ap (λ g. g q) (sym a) ∙ e)

module _ (a : Disk) (k l : Desk) (lying : SameLying k l) where
  own_once : OwnRule a k → OwnRule a l → own_of k.manifest ≡ own_of l.manifest
  own_once rk rl = rising_same _ _ rk.order rl.order (λ p.
      let fk = rk.folders p in
      let fl = rl.folders p in
      let turned = lying_sym k l lying in (
        λ c. let h = fk.0 c in fl.1 (own_same a k l lying (game_spot p) h.0, λ goes. h.1 (goes_same a l k turned (game_spot p) goes)),
        λ c. let h = fl.0 c in fk.1 (own_same a l k turned (game_spot p) h.0, λ goes. h.1 (goes_same a k l lying (game_spot p) goes)),
      ))

  folders_once : FolderRule a k → FolderRule a l → (s : Spot) → (k.folders s ↔ l.folders s)
  folders_once rk rl s =
      let fk = rk s in
      let fl = rl s in
      let turned = lying_sym k l lying in (
        λ c. let h = fk.0 c in fl.1 (h.0, there_same a k l lying s h.1, λ goes. h.2 (goes_same a l k turned s goes)),
        λ c. let h = fl.0 c in fk.1 (h.0, there_same a l k turned s h.1, λ goes. h.2 (goes_same a k l lying s goes)),
      )

-- what a deployment leads to
pub deployed_once : (a : Disk) (wins : List Win) (k l : Desk) → Deployed a wins k → Deployed a wins l → SameDesk k l
deployed_once a wins k l dk dl =
    let rows : dk.manifest.rows ≡ dl.manifest.rows = dk.rows ∙ sym dl.rows in
    let found : k.found ≡ l.found = λ i p. (dk.found p ∙ sym (dl.found p)) i in
    let plain = dk.plain ∙ sym dl.plain in
    let staged = dk.staged ∙ sym dl.staged in
    let aside = dk.aside ∙ sym dl.aside in
    let lying : SameLying k l = record { plain = plain; rows = ap rows_of dk.is_manifest ∙ rows ∙ sym (ap rows_of dl.is_manifest); found = found; staged = staged } in
    let own : dk.manifest.folders ≡ dl.manifest.folders = sym (ap own_of dk.is_manifest) ∙ own_once a k l lying dk.own dl.own ∙ ap own_of dl.is_manifest in
    let manifest : dk.manifest ≡ dl.manifest = λ i. record { rows = rows i; folders = own i } in
    record {
      plain = plain;
      manifest = dk.is_manifest ∙ ap recorded manifest ∙ sym dl.is_manifest;
      found = found;
      staged = staged;
      aside = aside;
      profile = dk.profile ∙ sym dl.profile;
      folders = λ s out. folders_once a k l lying dk.folders dl.folders s;
      bytes = λ n named. dk.bytes n named ∙ sym (dl.bytes n (named_too k l plain found staged aside n named));
    }

-- what a purge leads to
pub purged_once : (a : Disk) (k l : Desk) → Purged a k → Purged a l → SameDesk k l
purged_once a k l dk dl =
    let number = (next_number a).0 in
    let next : IsNextAside a number = (next_number a).1 in
    let found : k.found ≡ l.found = λ i p. (dk.found p ∙ sym (dl.found p)) i in
    let plain = dk.plain ∙ sym dl.plain in
    let staged = dk.staged ∙ sym dl.staged in
    let aside : k.aside ≡ l.aside = λ i p. (dk.aside number next p ∙ sym (dl.aside number next p)) i in
    let manifest = dk.manifest ∙ sym dl.manifest in
    let lying : SameLying k l = record { plain = plain; rows = ap rows_of manifest; found = found; staged = staged } in
    record {
      plain = plain;
      manifest = manifest;
      found = found;
      staged = staged;
      aside = aside;
      profile = dk.profile ∙ sym dl.profile;
      folders = λ s out. folders_once a k l lying dk.folders dl.folders s;
      bytes = λ n named. dk.bytes n named ∙ sym (dl.bytes n (named_too k l plain found staged aside n named));
    }

-- what a settlement leads to
pub settled_once : (a : Disk) (choice : Choice) (k l : Desk) → Settled a choice k → Settled a choice l → SameDesk k l
settled_once a choice k l dk dl =
    let number = (next_number a).0 in
    let next : IsNextAside a number = (next_number a).1 in
    let rows : dk.manifest.rows ≡ dl.manifest.rows = dk.rows ∙ sym dl.rows in
    let found : k.found ≡ l.found = λ i p. (dk.found p ∙ sym (dl.found p)) i in
    let plain = dk.plain ∙ sym dl.plain in
    let staged : k.staged ≡ l.staged = λ i p. (dk.staged p ∙ sym (dl.staged p)) i in
    let aside : k.aside ≡ l.aside = λ i p. (dk.aside number next p ∙ sym (dl.aside number next p)) i in
    let lying : SameLying k l = record { plain = plain; rows = ap rows_of dk.is_manifest ∙ rows ∙ sym (ap rows_of dl.is_manifest); found = found; staged = staged } in
    let own : dk.manifest.folders ≡ dl.manifest.folders = sym (ap own_of dk.is_manifest) ∙ own_once a k l lying dk.own dl.own ∙ ap own_of dl.is_manifest in
    let manifest : dk.manifest ≡ dl.manifest = λ i. record { rows = rows i; folders = own i } in
    record {
      plain = plain;
      manifest = dk.is_manifest ∙ ap recorded manifest ∙ sym dl.is_manifest;
      found = found;
      staged = staged;
      aside = aside;
      profile = dk.profile ∙ sym dl.profile;
      folders = λ s out. folders_once a k l lying dk.folders dl.folders s;
      bytes = λ n named. dk.bytes n named ∙ sym (dl.bytes n (named_too k l plain found staged aside n named));
    }

-- what an edit leads to
pub edited_once : (a : Disk) (text : Option (List ℕ)) (k l : Desk) → Edited a text k → Edited a text l → SameDesk k l
edited_once a text k l dk dl =
    let found = dk.found ∙ sym dl.found in
    let plain = dk.plain ∙ sym dl.plain in
    let staged = dk.staged ∙ sym dl.staged in
    let aside = dk.aside ∙ sym dl.aside in
    record {
      plain = plain;
      manifest = dk.manifest ∙ sym dl.manifest;
      found = found;
      staged = staged;
      aside = aside;
      profile = dk.profile ∙ sym dl.profile;
      folders = λ s out. let f = dk.folders s in let g = dl.folders s in (λ h. g.1 (f.0 h), λ h. f.1 (g.0 h));
      bytes = λ n named. dk.bytes n named ∙ sym (dl.bytes n (named_too k l plain found staged aside n named));
    }
