-- Which places are direct entries of `keep`.
use Rattle.std.proofs.Common.{◌≡◌, ◌≢◌, ℕ, true, false, List, [], ◌∷◌, refl, sym, ap, ◌∙◌, inl, inr, subst}
use Rattle.std.specs.Str.{bytes_eq}
use Rattle.rel_paths.specs.declared.control.Control.{Control}
use Rattle.rel_paths.specs.Controls.{control_path}
use Rattle.rel_paths.proofs.Limits.{names_of-control}
use Rattle.tree_fs.specs.declared.place.Root.TheVariants.{Keep}
use Rattle.tree_fs.specs.Spot.{Spot, root_spot, parent, is_entry, spot_eq, IsBelow}
use Rattle.tree_fs.specs.Texts.{control_spot, control_root}
use Rattle.tree_fs.proofs.Spots.{is_entry-parent}
use Rattle.desk_model.specs.Places.{Names, in_aside, IsUsers, manifest_spot, profile_spot, intent_spot, IsKeepEntry, IsTemp}
use Rattle.rel_paths.specs.declared.control.Control.TheVariants as control

pub keep_entry-root : (x : Spot) → IsKeepEntry x → x.root ≡ Keep
unfolding parent
keep_entry-root x is = ap (λ (s : Spot). s.root) (is_entry-parent (root_spot Keep) x is)

pub not_keep : (x : Spot) → IsUsers x.root → ¬ IsKeepEntry x
not_keep x users is = subst IsUsers (keep_entry-root x is) users

pub users-below : (s x : Spot) → IsBelow s x → IsUsers s.root → IsUsers x.root
users-below s x below users = subst IsUsers (sym below.root) users

pub aside-not_keep : (n : List ℕ) (ns : Names) → ¬ IsKeepEntry (in_aside (n ∷ ns))
unfolding parent
aside-not_keep n ns is = let e = ap (λ (s : Spot). s.names) (is_entry-parent (root_spot Keep) (in_aside (n ∷ ns)) is) in absurd (cc)

-- a control place has one name
pub control-names : (which : Control) → (control_spot which).names ≡ control_path which ∷ []
control-names which = names_of-control which

pub keep_control : (which : Control) → control_root which ≡ Keep → IsKeepEntry (control_spot which)
unfolding parent is_entry spot_eq
keep_control which e = subst IsKeepEntry (λ i. record { root = sym e i; names = sym (control-names which) i }) refl

pub temp-keep : (x : Spot) → IsTemp x → IsKeepEntry x
temp-keep x (inl e) = subst IsKeepEntry (sym e) (keep_control control.IntentTemp refl)
temp-keep x (inr (inl e)) = subst IsKeepEntry (sym e) (keep_control control.ManifestTemp refl)
temp-keep x (inr (inr e)) = subst IsKeepEntry (sym e) (keep_control control.ProfileTemp refl)

pub path-apart : (a b : Control) → bytes_eq (control_path a) (control_path b) ≡ false → bytes_eq (control_path b) (control_path b) ≡ true → control_spot a ≢ control_spot b
path-apart a b apart same e =
    let h : control_path a ∷ [] ≡ control_path b ∷ [] = sym (control-names a) ∙ ap (λ (s : Spot). s.names) e ∙ control-names b in
    let is : control_path a ≡ control_path b = cc in
    let t : false ≡ true = sym apart ∙ ap (λ l. bytes_eq l (control_path b)) is ∙ same in
    absurd (cc)

pub intent-not_temp : ¬ IsTemp intent_spot
intent-not_temp (inl e) = path-apart control.Intent control.IntentTemp refl refl e
intent-not_temp (inr (inl e)) = path-apart control.Intent control.ManifestTemp refl refl e
intent-not_temp (inr (inr e)) = path-apart control.Intent control.ProfileTemp refl refl e

pub profile-not_temp : ¬ IsTemp profile_spot
profile-not_temp (inl e) = path-apart control.Profile control.IntentTemp refl refl e
profile-not_temp (inr (inl e)) = path-apart control.Profile control.ManifestTemp refl refl e
profile-not_temp (inr (inr e)) = path-apart control.Profile control.ProfileTemp refl refl e

pub manifest-not_keep : ¬ IsKeepEntry manifest_spot
manifest-not_keep = not_keep manifest_spot tt
