-- What the parts of a document say of the profile.
use Rattle.std.proofs.Common.{◌≡◌, ◌≤◌, ℕ, suc, Bool, true, false, not, nat_le, nat_lt, nat_eq, if◌then◌else◌, List, [], ◌∷◌, ◌++◌, Option, None, Some, Result, Ok, Err, is_some, codes, map, refl, ap, sym, subst, ◌∙◌, arith}
use Rattle.std.proofs.lemmas.Bool.Decides.{nat_tests}
use Rattle.std.proofs.lemmas.Str.{IsUtf8-from_is_utf8, is_utf8-from_IsUtf8}
use Rattle.std.specs.Option.{option_or}
use Rattle.std.specs.Result.{IfOk, IfErr}
use Rattle.std.specs.Str.{is_utf8, IsUtf8}
use Rattle.toml.specs.Data.{Data, Members, get_member, same_key}
use Rattle.toml.specs.Parse.{parse_document}
use Rattle.profile_toml.specs.declared.error.ProfileError.{ProfileError}
use Rattle.profile_toml.specs.declared.error.ProfileError.TheVariants.{NotToml, Memory}
use Rattle.profile_toml.specs.Faults.{Reads}
use Rattle.profile_toml.specs.Floats.{members_have_float}
use Rattle.profile_toml.specs.Levels.{members_levels}
use Rattle.profile_toml.specs.Mods.{mods_fault, mods_value}
use Rattle.profile_toml.specs.Overrides.{overrides_fault, overrides_value}
use Rattle.profile_toml.specs.Profiles.{document_of, document_fault, document_value, version_at, types_in, fold_fault, parts_fault, parts_value, versioned_fault, bytes_fault, profile_or, profile_of}
use Rattle.profile_toml.specs.Records.{ProfileData, type_ids}
use Rattle.profile_toml.specs.Tables.{Document, from_2, member_from_2}
use Rattle.profile_toml.specs.Types.{types_fault, types_value}
use Rattle.profile_toml.specs.Unknown.{without_key, without, unknown_in}
use Rattle.profile_toml.proofs.Members.{get-without, get-gone, without_key-none}

refused_by : (bytes : List ℕ) (b : Bool) → is_utf8 bytes ≡ b → (IsUtf8 bytes → parse_document bytes ≡ None) → document_of bytes ≡ None
refused_by bytes true p h = rw p (h (IsUtf8-from_is_utf8 bytes p))
refused_by bytes false p h = rw p refl

-- bytes that the reader refuses
pub refused : (bytes : List ℕ) → (IsUtf8 bytes → parse_document bytes ≡ None) → document_of bytes ≡ None
refused bytes h = refused_by bytes (is_utf8 bytes) refl h

pub too_deep : (n : ℕ) → nat_le n 63 ≡ false → nat_lt 64 (suc n) ≡ true
too_deep n h = grind (arith, nat_tests)

pub deep_enough : (n : ℕ) → nat_le n 63 ≡ true → nat_lt 64 (suc n) ≡ false
deep_enough n h = grind (arith, nat_tests)

pub within : (n : ℕ) → nat_le n 63 ≡ true → n ≤ 63
within n h = grind (arith, nat_tests)

-- a table from which the version and `fold` are taken
module _ (version : ℕ) (ms left : Members) (others : (k : List ℕ) → same_key (codes "version") k ≡ false → same_key (codes "fold") k ≡ false → get_member k left ≡ get_member k ms) where
  types_left : types_in version left ≡ types_in version ms
  types_left = ap (λ o. if nat_eq version 1 then None else o) (others (codes "types") refl refl)

  pub parts_fault_left : parts_fault version left ≡ parts_fault version ms
  parts_fault_left =
      let mods = others (codes "mods") refl refl in
      let overrides = others (codes "overrides") refl refl in
      λ i. option_or (types_fault (types_left i)) (option_or (mods_fault version (type_ids (types_value (types_left i))) (mods i)) (overrides_fault (overrides i)))

  pub parts_value_left : unknown_in version Document left ≡ unknown_in version Document ms → parts_value version left ≡ parts_value version ms
  parts_value_left extra =
      let mods = others (codes "mods") refl refl in
      let overrides = others (codes "overrides") refl refl in
      λ i. record { version = version; mods = mods_value version (mods i); overrides = overrides_value (overrides i); types = types_value (types_left i); extra = extra i }

unknown_by : (b : Bool) (ms : Members) → without ((if b then [] else codes "fold" ∷ codes "types" ∷ []) ++ codes "mods" ∷ codes "overrides" ∷ []) (without_key (codes "version") (without (if b then [] else codes "fold" ∷ []) (without_key (codes "version") ms)))
    ≡ without ((if b then [] else codes "fold" ∷ codes "types" ∷ []) ++ codes "mods" ∷ codes "overrides" ∷ []) (without_key (codes "version") ms)
unknown_by true ms =
    ap (without (codes "mods" ∷ codes "overrides" ∷ [])) (without_key-none (codes "version") (without_key (codes "version") ms) (get-gone (codes "version") ms))
unknown_by false ms =
    let left = without_key (codes "fold") (without_key (codes "version") ms) in
    let no_version : get_member (codes "version") left ≡ None = get-without (codes "fold") (codes "version") (without_key (codes "version") ms) refl ∙ get-gone (codes "version") ms in
    let no_fold : get_member (codes "fold") left ≡ None = get-gone (codes "fold") (without_key (codes "version") ms) in
    ap (without (codes "fold" ∷ codes "types" ∷ codes "mods" ∷ codes "overrides" ∷ [])) (without_key-none (codes "version") left no_version)
    ∙ ap (without (codes "types" ∷ codes "mods" ∷ codes "overrides" ∷ [])) (without_key-none (codes "fold") left no_fold)

pub unknown_left : (version : ℕ) (ms left : Members) → left ≡ without (from_2 version (codes "fold" ∷ [])) (without_key (codes "version") ms) → unknown_in version Document left ≡ unknown_in version Document ms
unknown_left version ms left is = ap (unknown_in version Document) is ∙ unknown_by (nat_eq version 1) ms

no_fold_by : (b : Bool) (ms : Members) → (if b then None else get_member (codes "fold") (without (if b then [] else codes "fold" ∷ []) ms)) ≡ None
no_fold_by true ms = refl
no_fold_by false ms = get-gone (codes "fold") ms

pub no_fold_left : (version : ℕ) (ms left : Members) → left ≡ without (from_2 version (codes "fold" ∷ [])) ms → member_from_2 version (codes "fold") left ≡ None
no_fold_left version ms left is = ap (member_from_2 version (codes "fold")) is ∙ no_fold_by (nat_eq version 1) ms

taken_by : (b : Bool) (ms : Members) → get_member (codes "version") ms ≡ None → (if b then None else get_member (codes "fold") ms) ≡ None
    → without_key (codes "overrides") (without_key (codes "mods") (without (if b then [] else codes "types" ∷ []) ms))
    ≡ without ((if b then [] else codes "fold" ∷ codes "types" ∷ []) ++ codes "mods" ∷ codes "overrides" ∷ []) (without_key (codes "version") ms)
taken_by true ms no_version no_fold = ap (without (codes "mods" ∷ codes "overrides" ∷ [])) (sym (without_key-none (codes "version") ms no_version))
taken_by false ms no_version no_fold =
    ap (without (codes "types" ∷ codes "mods" ∷ codes "overrides" ∷ [])) (sym (without_key-none (codes "fold") ms no_fold))
    ∙ ap (without (codes "fold" ∷ codes "types" ∷ codes "mods" ∷ codes "overrides" ∷ [])) (sym (without_key-none (codes "version") ms no_version))

-- the unknown members, where the version and `fold` are taken out already
pub document_keys_taken : (version : ℕ) (ms : Members) → get_member (codes "version") ms ≡ None → member_from_2 version (codes "fold") ms ≡ None
    → without_key (codes "overrides") (without_key (codes "mods") (without (from_2 version (codes "types" ∷ [])) ms)) ≡ unknown_in version Document ms
document_keys_taken version ms no_version no_fold = taken_by (nat_eq version 1) ms no_version no_fold

module _ (ms : Members) (flat : nat_le (members_levels ms) 63 ≡ true) (no_floats : members_have_float ms ≡ false) where
  -- a document that is flat enough and has no floats
  pub document_fault_is : document_fault ms ≡ versioned_fault (version_at (get_member (codes "version") ms)) ms
  document_fault_is = rw (deep_enough (members_levels ms) flat, no_floats) refl

-- bytes that the reader takes
pub accepted : (bytes : List ℕ) (ms : Members) → IsUtf8 bytes → parse_document bytes ≡ Some ms → document_of bytes ≡ Some ms
accepted bytes ms h p = rw (is_utf8-from_IsUtf8 bytes h) p

pub not_toml : (bytes : List ℕ) → document_of bytes ≡ None → profile_of bytes ≡ Err NotToml
unfolding profile_of
not_toml bytes h = ap (λ d. profile_or (bytes_fault d) d) h

pub profile_read : (bytes : List ℕ) (ms : Members) (r : Result ProfileData ProfileError) → document_of bytes ≡ Some ms → Reads (document_fault ms) (document_value ms) r → IfOk r (λ p. profile_of bytes ≡ Ok p)
unfolding profile_of
profile_read bytes ms (Ok p) h g = ap (λ d. profile_or (bytes_fault d) d) h ∙ ap (λ f. profile_or f (Some ms)) g.0 ∙ ap Ok (sym g.1)
profile_read bytes ms (Err e) h g = tt

pub fault_read : (bytes : List ℕ) (ms : Members) (r : Result ProfileData ProfileError) → document_of bytes ≡ Some ms → Reads (document_fault ms) (document_value ms) r
    → IfErr r (λ e. (e ≡ Memory → ⊥) → profile_of bytes ≡ Err e)
unfolding profile_of
fault_read bytes ms (Ok p) h g = tt
fault_read bytes ms (Err e) h g = λ n. ap (λ d. profile_or (bytes_fault d) d) h ∙ ap (λ f. profile_or f (Some ms)) (g n)
