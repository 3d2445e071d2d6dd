-- Desks that are one: and what holds of the one holds of the other.
use Rattle.std.proofs.Common.{◌≡◌, ◌⊎◌, ℕ, List, refl, sym, ap, ◌∙◌, inl, inr, subst}
use Rattle.std.specs.List.{Contains}
use Rattle.std.specs.List.Sorted.{IsStrictlySortedBy}
use Rattle.std.specs.Ordering.{nat_cmp}
use Rattle.std.specs.Cmp.Lexicographic.{slice_cmp}
use Rattle.std.specs.declared.option.Option.{Option}
use Rattle.std.specs.declared.option.Option.TheVariants.{None, Some}
use Rattle.rel_paths.specs.Names.{names_of}
use Rattle.tree_fs.specs.declared.place.Root.{Root}
use Rattle.tree_fs.specs.declared.place.Root.TheVariants.{Stage, Game, Keep}
use Rattle.tree_fs.specs.Spot.{Spot}
use Rattle.tree_fs.specs.Places.{game_spot}
use Rattle.tree_fs.specs.Disk.{Disk}
use Rattle.tree_fs.specs.Calls.{IsFolder}
use Rattle.manifest_json.specs.declared.manifest.Row.{Row}
use Rattle.desk_model.specs.Places.{Names}
use Rattle.desk_model.specs.Records.{rows_of, own_of, row_at, row_behind}
use Rattle.desk_model.specs.Desk.{Desk, desk, IsNamed, in_plain, in_found, in_staged, in_asides, HasBytesOf, SameDesk}
use Rattle.desk_model.specs.Folders.{lies_in_game, lies_by, lies, IsNeeded, IsOwnOrNeeded, Goes, FolderRule, OwnRule}
use Rattle.desk_model.specs.Deployed.{Win, Deployed}
use Rattle.desk_model.specs.Settled.{Choice, Settled}
use Rattle.desk_model.specs.Purged.{Purged}
use Rattle.desk_model.specs.Edited.{Edited}

pub same_named : (k l : Desk) → SameDesk k l → (n : ℕ) → IsNamed k n → IsNamed l n
same_named k l a n (in_plain p e) = in_plain p (ap (λ f. f p) (sym a.plain) ∙ e)
same_named k l a n (in_found p e) = in_found p (ap (λ f. f p) (sym a.found) ∙ e)
same_named k l a n (in_staged p e) = in_staged p (ap (λ f. f p) (sym a.staged) ∙ e)
same_named k l a n (in_asides p e) = in_asides p (ap (λ f. f p) (sym a.aside) ∙ e)

pub same_itself : (k : Desk) → SameDesk k k
same_itself k = record {
  plain = refl;
  manifest = refl;
  found = refl;
  staged = refl;
  aside = refl;
  profile = refl;
  folders = λ s out. (λ h. h, λ h. h);
  bytes = λ n named. refl;
}

pub same_trans : (k l m : Desk) → SameDesk k l → SameDesk l m → SameDesk k m
same_trans k l m a b = record {
  plain = a.plain ∙ b.plain;
  manifest = a.manifest ∙ b.manifest;
  found = a.found ∙ b.found;
  staged = a.staged ∙ b.staged;
  aside = a.aside ∙ b.aside;
  profile = a.profile ∙ b.profile;
  folders = λ s out. let f = a.folders s out in let g = b.folders s out in (λ h. g.0 (f.0 h), λ h. f.1 (g.1 h));
  bytes = λ n named. a.bytes n named ∙ b.bytes n (same_named k l a n named);
}

pub same_sym : (k l : Desk) → SameDesk k l → SameDesk l k
same_sym k l a = turned
  where
    back : (n : ℕ) → IsNamed l n → IsNamed k n
    back n (in_plain p e) = in_plain p (ap (λ f. f p) a.plain ∙ e)
    back n (in_found p e) = in_found p (ap (λ f. f p) a.found ∙ e)
    back n (in_staged p e) = in_staged p (ap (λ f. f p) a.staged ∙ e)
    back n (in_asides p e) = in_asides p (ap (λ f. f p) a.aside ∙ e)

    turned : SameDesk l k
    turned = record {
      plain = sym a.plain;
      manifest = sym a.manifest;
      found = sym a.found;
      staged = sym a.staged;
      aside = sym a.aside;
      profile = sym a.profile;
      folders = λ s out. let f = a.folders s out in (f.1, f.0);
      bytes = λ n named. sym (a.bytes n (back n named));
    }

-- What lies where

-- the parts from which the files of a desk are told
pub record SameLying (k l : Desk) : Type 0 where
  pub plain : k.plain ≡ l.plain
  pub rows : rows_of k.manifest ≡ rows_of l.manifest
  pub found : k.found ≡ l.found
  pub staged : k.staged ≡ l.staged

pub same_lying : (k l : Desk) → SameDesk k l → SameLying k l
same_lying k l a = record { plain = a.plain; rows = ap rows_of a.manifest; found = a.found; staged = a.staged }

pub lying_sym : (k l : Desk) → SameLying k l → SameLying l k
lying_sym k l a = record { plain = sym a.plain; rows = sym a.rows; found = sym a.found; staged = sym a.staged }

module _ (k l : Desk) (same : SameLying k l) where
  in_game_same : (p : Names) (o s : Option Row) → lies_in_game k p o s ≡ lies_in_game l p o s
  in_game_same p (Some r) s = ap (λ f. f p) same.found
  in_game_same p None (Some s) = ap (λ f. f (names_of s.path)) same.plain
  in_game_same p None None = ap (λ f. f p) same.plain

  lies_by_same : (r : Root) (p : Names) → lies_by k r p ≡ lies_by l r p
  lies_by_same Stage p = ap (λ f. f p) same.staged
  lies_by_same Keep p = refl
  lies_by_same Game p = ap (λ rows. lies_in_game k p (row_at rows p) (row_behind rows p)) same.rows ∙ in_game_same p (row_at (rows_of l.manifest) p) (row_behind (rows_of l.manifest) p)

  pub lies_same : (x : Spot) → lies k x ≡ lies l x
  lies_same x = lies_by_same x.root x.names

module _ (a : Disk) (k l : Desk) (same : SameLying k l) where
  pub needed_same : (s : Spot) → IsNeeded a k s → IsNeeded a l s
  needed_same s h = record { missing = h.missing; place = h.place; below = h.below; number = h.number; there = sym (lies_same k l same h.place) ∙ h.there }

  pub own_same : (s : Spot) → IsOwnOrNeeded a k s → IsOwnOrNeeded a l s
  own_same s (inl own) = inl own
  own_same s (inr h) = inr (h.0, needed_same s h.1)

module _ (a : Disk) (k l : Desk) (same : SameLying k l) where
  pub goes_same : (s : Spot) → Goes a k s → Goes a l s
  goes_same s h = record {
    own = own_same a k l same s h.own;
    no_value = λ x below. sym (lies_same k l same x) ∙ h.no_value x below;
    no_folder = λ x below there. own_same a k l same x (h.no_folder x below (back x there));
  }
    where
      back : (x : Spot) → IsFolder a x ⊎ IsNeeded a l x → IsFolder a x ⊎ IsNeeded a k x
      back x (inl folder) = inl folder
      back x (inr needed) = inr (needed_same a l k (lying_sym k l same) x needed)

  pub there_same : (x : Spot) → IsFolder a x ⊎ IsNeeded a k x → IsFolder a x ⊎ IsNeeded a l x
  there_same x (inl folder) = inl folder
  there_same x (inr needed) = inr (needed_same a k l same x needed)

module _ (a : Disk) (k l : Desk) where
  pub folder_rule-same : SameDesk k l → FolderRule a l → FolderRule a k
  folder_rule-same same rule s =
      let lying = same_lying k l same in
      let turned = lying_sym k l lying in
      let f = same.folders s (λ never. never) in
      let r = rule s in (
        λ h. let u = r.0 (f.0 h) in (u.0, there_same a l k turned s u.1, λ goes. u.2 (goes_same a k l lying s goes)),
        λ h. f.1 (r.1 (h.0, there_same a k l lying s h.1, λ goes. h.2 (goes_same a l k turned s goes))),
      )

  pub own_rule-same : SameDesk k l → OwnRule a l → OwnRule a k
  own_rule-same same rule =
      let lying = same_lying k l same in
      let turned = lying_sym k l lying in
      let own = ap own_of same.manifest in
      record {
        folders = λ path.
            let r = rule.folders path in (
              λ c. let u = r.0 (subst (λ ps. Contains ps path) own c) in (own_same a l k turned (game_spot path) u.0, λ goes. u.1 (goes_same a k l lying (game_spot path) goes)),
              λ h. subst (λ ps. Contains ps path) (sym own) (r.1 (own_same a k l lying (game_spot path) h.0, λ goes. h.1 (goes_same a l k turned (game_spot path) goes))),
            );
        order = subst (IsStrictlySortedBy (slice_cmp nat_cmp)) (sym own) rule.order;
      }

  bytes_same : SameDesk k l → HasBytesOf l (desk a) → HasBytesOf k (desk a)
  bytes_same same has n named = same.bytes n named ∙ has n (same_named k l same n named)

  -- what a command leads to is a fact of the desk
  pub deployed-same : (wins : List Win) → SameDesk k l → Deployed a wins l → Deployed a wins k
  deployed-same wins same h = record {
    plain = same.plain ∙ h.plain;
    manifest = h.manifest;
    is_manifest = same.manifest ∙ h.is_manifest;
    rows = h.rows;
    found = λ p. ap (λ f. f p) same.found ∙ h.found p;
    staged = same.staged ∙ h.staged;
    aside = same.aside ∙ h.aside;
    profile = same.profile ∙ h.profile;
    folders = folder_rule-same same h.folders;
    own = own_rule-same same h.own;
    bytes = bytes_same same h.bytes;
  }

  pub settled-same : (choice : Choice) → SameDesk k l → Settled a choice l → Settled a choice k
  settled-same choice same h = record {
    plain = same.plain ∙ h.plain;
    manifest = h.manifest;
    is_manifest = same.manifest ∙ h.is_manifest;
    rows = h.rows;
    found = λ p. ap (λ f. f p) same.found ∙ h.found p;
    staged = λ p. ap (λ f. f p) same.staged ∙ h.staged p;
    aside = λ n next p. ap (λ f. f p) same.aside ∙ h.aside n next p;
    profile = same.profile ∙ h.profile;
    folders = folder_rule-same same h.folders;
    own = own_rule-same same h.own;
    bytes = bytes_same same h.bytes;
  }

  pub purged-same : SameDesk k l → Purged a l → Purged a k
  purged-same same h = record {
    plain = same.plain ∙ h.plain;
    manifest = same.manifest ∙ h.manifest;
    found = λ p. ap (λ f. f p) same.found ∙ h.found p;
    staged = same.staged ∙ h.staged;
    aside = λ n next p. ap (λ f. f p) same.aside ∙ h.aside n next p;
    profile = same.profile ∙ h.profile;
    folders = folder_rule-same same h.folders;
    bytes = bytes_same same h.bytes;
  }

  pub edited-same : (text : Option (List ℕ)) → SameDesk k l → Edited a text l → Edited a text k
  edited-same text same h = record {
    plain = same.plain ∙ h.plain;
    manifest = same.manifest ∙ h.manifest;
    found = same.found ∙ h.found;
    staged = same.staged ∙ h.staged;
    aside = same.aside ∙ h.aside;
    profile = same.profile ∙ h.profile;
    folders = λ s.
        let f = same.folders s (λ never. never) in
        let g = h.folders s in (λ is. g.0 (f.0 is), λ is. f.1 (g.1 is));
    bytes = bytes_same same h.bytes;
  }
