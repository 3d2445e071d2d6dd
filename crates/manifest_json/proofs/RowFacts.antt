-- What the keys of a value say of the row.
use Rattle.std.proofs.Common.{◌≡◌, ℕ, Bool, true, false, not, ◌&&◌, refl, List, [], Option, option_map, option_and_then, None, Some, Ok, Err, codes, unwrap_or, ap, sym, ◌∙◌}
use Rattle.std.specs.List.{list_any}
use Rattle.serde_json.specs.Data.{Data}
use Rattle.manifest_json.specs.declared.digest.FileDigest.{FileDigest}
use Rattle.manifest_json.specs.declared.manifest.Row.{Row}
use Rattle.manifest_json.specs.declared.version.FormatVersion.{FormatVersion}
use Rattle.manifest_json.specs.declared.spot.Spot.TheVariants.{File}
use Rattle.manifest_json.specs.declared.error.ManifestError.{ManifestError}
use Rattle.manifest_json.specs.declared.error.ManifestError.TheVariants.{Shape, BadPath, Order, Nested, Source}
use Rattle.manifest_json.specs.Paths.{is_free_path, is_mod_id, is_above}
use Rattle.rel_paths.specs.Names.{extends}
use Rattle.manifest_json.specs.Records.{paths_of}
use Rattle.manifest_json.specs.Sources.{meets}
use Rattle.manifest_json.specs.Versions.{source_key}
use Rattle.manifest_json.specs.Answers.{checked, or_fault, and_then}
use Rattle.manifest_json.specs.Rows.{text_at, flag_at, digest_at, path_in, id_in, source_in, row_of, row_alone, row_behind, row_beside, has_good_paths}
use Rattle.manifest_json.proofs.Steps.{checked-ok, checked-err}

abbrev pub row_with : FileDigest → List ℕ → List ℕ → Bool → List ℕ → Row
row_with g m p f s = record { path = p; mod_id = m; digest = g; shadowed = f; source = s }

module _ (version : FormatVersion) (i : ℕ) (d : Data) where
  pub no_digest : digest_at (codes "digest") d ≡ None → row_alone version i d ≡ Err (Shape (File i))
  unfolding row_alone row_of
  no_digest h = rw h

  module _ (g : FileDigest) (has_digest : digest_at (codes "digest") d ≡ Some g) where
    pub no_mod : text_at (codes "mod") d ≡ None → row_alone version i d ≡ Err (Shape (File i))
    unfolding row_alone row_of
    no_mod h = rw (has_digest, h)

    module _ (m : List ℕ) (has_mod : text_at (codes "mod") d ≡ Some m) where
      pub no_path : text_at (codes "path") d ≡ None → row_alone version i d ≡ Err (Shape (File i))
      unfolding row_alone row_of
      no_path h = rw (has_digest, has_mod, h)

      module _ (p : List ℕ) (has_path : text_at (codes "path") d ≡ Some p) where
        pub no_flag : flag_at (codes "shadowed") d ≡ None → row_alone version i d ≡ Err (Shape (File i))
        unfolding row_alone row_of
        no_flag h = rw (has_digest, has_mod, has_path, h)

        module _ (f : Bool) (has_flag : flag_at (codes "shadowed") d ≡ Some f) where
          pub no_source : text_at (source_key version) d ≡ None → row_alone version i d ≡ Err (Shape (File i))
          unfolding row_alone row_of
          no_source h = rw (has_digest, has_mod, has_path, has_flag, h)

          module _ (s : List ℕ) (has_source : text_at (source_key version) d ≡ Some s) where
            row_is : row_of version d ≡ Some (row_with g m p f s)
            unfolding row_of
            row_is = rw (has_digest, has_mod, has_path, has_flag, has_source)

            alone_is : row_alone version i d ≡ checked ((is_mod_id m && is_free_path p) && is_free_path s) (BadPath (File i)) (row_with g m p f s)
            unfolding row_alone
            alone_is = rw row_is

            pub bad_mod : (e : ManifestError) → checked (is_mod_id m) (BadPath (File i)) m ≡ Err e → row_alone version i d ≡ Err e
            bad_mod e h =
                let parts = checked-err (is_mod_id m) (BadPath (File i)) e m h in
                alone_is ∙ ap (λ b. checked ((b && is_free_path p) && is_free_path s) (BadPath (File i)) (row_with g m p f s)) parts.0 ∙ ap Err parts.1

            module _ (id : List ℕ) (good_mod : checked (is_mod_id m) (BadPath (File i)) m ≡ Ok id) where
              pub bad_path : (e : ManifestError) → checked (is_free_path p) (BadPath (File i)) p ≡ Err e → row_alone version i d ≡ Err e
              bad_path e h =
                  let first = checked-ok (is_mod_id m) (BadPath (File i)) m id good_mod in
                  let parts = checked-err (is_free_path p) (BadPath (File i)) e p h in
                  alone_is ∙ (λ j. checked ((first.0 j && parts.0 j) && is_free_path s) (BadPath (File i)) (row_with g m p f s)) ∙ ap Err parts.1

              module _ (path : List ℕ) (good_path : checked (is_free_path p) (BadPath (File i)) p ≡ Ok path) where
                pub bad_source : (e : ManifestError) → checked (is_free_path s) (BadPath (File i)) s ≡ Err e → row_alone version i d ≡ Err e
                bad_source e h =
                    let first = checked-ok (is_mod_id m) (BadPath (File i)) m id good_mod in
                    let second = checked-ok (is_free_path p) (BadPath (File i)) p path good_path in
                    let parts = checked-err (is_free_path s) (BadPath (File i)) e s h in
                    alone_is ∙ (λ j. checked ((first.0 j && second.0 j) && parts.0 j) (BadPath (File i)) (row_with g m p f s)) ∙ ap Err parts.1

                pub good_row : (source : List ℕ) → checked (is_free_path s) (BadPath (File i)) s ≡ Ok source → row_alone version i d ≡ Ok (row_with g id path f source)
                good_row source h =
                    let first = checked-ok (is_mod_id m) (BadPath (File i)) m id good_mod in
                    let second = checked-ok (is_free_path p) (BadPath (File i)) p path good_path in
                    let third = checked-ok (is_free_path s) (BadPath (File i)) s source h in
                    alone_is ∙ (λ j. checked ((first.0 j && second.0 j) && third.0 j) (BadPath (File i)) (row_with g (first.1 j) (second.1 j) f (third.1 j)))

-- the texts of a value, and the row of its own
record HasTexts (b c s : Option (List ℕ)) (r : Row) : Type 0 where
  path : unwrap_or c [] ≡ r.path
  id : unwrap_or b [] ≡ r.mod_id
  source : unwrap_or s [] ≡ r.source
  good : has_good_paths r ≡ true

texts_from_parts : (i : ℕ) (a : Option FileDigest) (b c : Option (List ℕ)) (f : Option Bool) (s : Option (List ℕ)) (r : Row)
    → and_then (or_fault (option_and_then (λ digest. option_and_then (λ id. option_and_then (λ path. option_and_then (λ shadowed. option_map (λ source. row_with digest id path shadowed source) s) f) c) b) a) (Shape (File i))) (λ x. checked (has_good_paths x) (BadPath (File i)) x) ≡ Ok r
    → HasTexts b c s r
texts_from_parts i None b c f s r h = let never : ⊥ = cc in absurd never
texts_from_parts i (Some g) None c f s r h = let never : ⊥ = cc in absurd never
texts_from_parts i (Some g) (Some m) None f s r h = let never : ⊥ = cc in absurd never
texts_from_parts i (Some g) (Some m) (Some p) None s r h = let never : ⊥ = cc in absurd never
texts_from_parts i (Some g) (Some m) (Some p) (Some f) None r h = let never : ⊥ = cc in absurd never
texts_from_parts i (Some g) (Some m) (Some p) (Some f) (Some s) r h =
    let is = checked-ok (has_good_paths (row_with g m p f s)) (BadPath (File i)) (row_with g m p f s) r h in
    record {
      path = ap (λ (t : Row). t.path) is.1;
      id = ap (λ (t : Row). t.mod_id) is.1;
      source = ap (λ (t : Row). t.source) is.1;
      good = ap has_good_paths (sym is.1) ∙ is.0;
    }

module _ (version : FormatVersion) (i : ℕ) (d : Data) (r : Row) (is : row_alone version i d ≡ Ok r) where
  all_texts : HasTexts (text_at (codes "mod") d) (text_at (codes "path") d) (text_at (source_key version) d) r
  unfolding row_alone row_of
  all_texts = texts_from_parts i (digest_at (codes "digest") d) (text_at (codes "mod") d) (text_at (codes "path") d) (flag_at (codes "shadowed") d) (text_at (source_key version) d) r is

  -- the texts of a row that is read
  pub path_is : path_in d ≡ r.path
  path_is = all_texts.path

  pub id_is : id_in d ≡ r.mod_id
  id_is = all_texts.id

  pub source_is : source_in version d ≡ r.source
  source_is = all_texts.source

  pub good_is : has_good_paths r ≡ true
  good_is = all_texts.good

module _ (earlier : List Row) (i : ℕ) (r : Row) where
  pub behind_ok : is_above (paths_of earlier) r.path ≡ true → list_any (extends r.path) (paths_of earlier) ≡ false → row_behind earlier i r ≡ Ok r
  unfolding row_behind
  behind_ok h k = rw (h, k)

  pub behind_order : is_above (paths_of earlier) r.path ≡ false → row_behind earlier i r ≡ Err (Order (File i))
  unfolding row_behind
  behind_order h = rw h

  pub behind_nested : is_above (paths_of earlier) r.path ≡ true → list_any (extends r.path) (paths_of earlier) ≡ true → row_behind earlier i r ≡ Err (Nested (File i))
  unfolding row_behind
  behind_nested h k = rw (h, k)

  pub beside_ok : list_any (meets r) earlier ≡ false → row_beside earlier i r ≡ Ok r
  unfolding row_beside
  beside_ok h = ap (λ b. checked (not b) (Source (File i)) r) h

  pub beside_met : list_any (meets r) earlier ≡ true → row_beside earlier i r ≡ Err (Source (File i))
  unfolding row_beside
  beside_met h = ap (λ b. checked (not b) (Source (File i)) r) h
