-- One step of a walk.
use Rattle.std.proofs.Common.{◌≡◌, ◌≢◌, ◌⊎◌, ℕ, ◌+◌, List, [], ◌∷◌, ◌++◌, sym, ap, ◌∙◌, inl, inr, subst, append-nil}
use Rattle.std.specs.List.{AllByRecursion, Contains}
use Rattle.std.proofs.lemmas.List.{length-append}
use Rattle.std.proofs.lemmas.List.Elements.{Contains-append_left, Contains-append_right, Contains-append_cases}
use Rattle.rel_paths.specs.Names.{names_of}
use Rattle.rel_paths.proofs.NamesOf.{same_text}
use Rattle.tree_fs.specs.declared.name.Kind.TheVariants as kind
use Rattle.tree_fs.specs.Disk.{Disk}
use Rattle.list_laws.proofs.Alls.{all_append, all_left, all_both, all_weaken, all_more, all_item}
use Rattle.list_laws.proofs.Containing.{contains_here, last_cases}
use Rattle.stage_scan.specs.Walks.{kind_inside, walk_cmp, IsInside, IsEarlier, IsSoundInside, IsWalkBefore}
use Rattle.stage_scan.specs.Stack.{IsApart, IsUnderSome, IsFound, IsWalkedTo}
use Rattle.stage_scan.proofs.Orders.{walk_total, apart_earlier, apart_left, apart_right, content_later, not_both, not_itself, under_not_earlier}
use Rattle.stage_scan.proofs.Stacks.{stacked_append, stacked_last}
use Rattle.list_laws.proofs.Alls.{all_last}
use Rattle.list_laws.proofs.Sorted.{sorted_more}
use Rattle.stage_scan.proofs.Contents.{IsNext, IsContent}

-- what is found after a step, where the entry gives no file, and where it gives one
pub record FoundNext (d : Disk) (id : List ℕ) (x : List (List ℕ)) (seen : List (List (List ℕ))) (fs gs : List (List ℕ)) : Type 0 where
  pub found : AllByRecursion (IsFound d id (seen ++ x ∷ [])) gs
  pub all_found : (path : List ℕ) → IsFound d id (seen ++ x ∷ []) path → Contains gs path

module _ (d : Disk) (id : List ℕ) (ns : List (List (List ℕ))) (x : List (List ℕ)) (k : ℕ) (fs : List (List ℕ)) (w : IsWalkedTo d id (ns ++ x ∷ []) k fs) where
  pub x_there : IsInside d id x
  x_there = all_last (IsInside d id) ns x w.inside_all

  pub seen_earlier : AllByRecursion (λ s. IsEarlier s x) w.seen
  seen_earlier = all_last (λ p. AllByRecursion (λ s. IsEarlier s p) w.seen) ns x w.ahead

  pub rest_apart : AllByRecursion (λ p. IsApart x p) ns
  rest_apart = (stacked_last ns x w.stacked).0

  still_found : (path : List ℕ) → IsFound d id w.seen path → IsFound d id (w.seen ++ x ∷ []) path
  still_found path is = record { is_seen = Contains-append_left w.seen (x ∷ []) (names_of path) is.is_seen; file = is.file }

  pub no_file : kind_inside d id x ≢ kind.File → FoundNext d id x w.seen fs fs
  no_file ne = record {
    found = all_weaken (IsFound d id w.seen) (IsFound d id (w.seen ++ x ∷ [])) fs still_found w.found;
    all_found = λ path is. elim (last_cases w.seen x (names_of path) is.is_seen) [
      | inl c ↦ w.all_found path (record { is_seen = c; file = is.file })
      | inr e ↦ absurd (ne (ap (kind_inside d id) (sym e) ∙ is.file))
    ];
  }

  pub one_file : (path : List ℕ) → names_of path ≡ x → kind_inside d id x ≡ kind.File → FoundNext d id x w.seen fs (fs ++ path ∷ [])
  one_file path is file = record {
    found = all_more (IsFound d id (w.seen ++ x ∷ [])) fs path (all_weaken (IsFound d id w.seen) (IsFound d id (w.seen ++ x ∷ [])) fs still_found w.found)
        (record { is_seen = subst (Contains (w.seen ++ x ∷ [])) (sym is) (Contains-append_right w.seen (x ∷ []) x (contains_here x [])); file = ap (kind_inside d id) is ∙ file });
    all_found = λ other found. elim (last_cases w.seen x (names_of other) found.is_seen) [
      | inl c ↦ Contains-append_left fs (path ∷ []) other (w.all_found other (record { is_seen = c; file = found.file }))
      | inr e ↦ subst (Contains (fs ++ path ∷ [])) (same_text path other (is ∙ sym e)) (Contains-append_right fs (path ∷ []) path (contains_here path []))
    ];
  }

  pub one_step : (cs : List (List (List ℕ))) (gs : List (List ℕ)) → IsSoundInside d id x → IsContent d id x cs → FoundNext d id x w.seen fs gs → IsWalkedTo d id (ns ++ cs) (k + 1) gs
  one_step cs gs sound content next = record {
    seen = w.seen ++ x ∷ [];
    counts = ap (λ n. n + 1) w.counts ∙ sym (length-append w.seen (x ∷ []));
    order = sorted_more walk_cmp w.seen x w.order seen_earlier;
    each = all_more (IsInside d id) w.seen x w.each x_there;
    sound = all_more (IsSoundInside d id) w.seen x w.sound sound;
    stacked = stacked_append ns cs (stacked_last ns x w.stacked).1 content.stacked
        (all_weaken (λ p. IsApart x p) (λ p. AllByRecursion (λ q. IsApart q p) cs) ns
        (λ p a. all_weaken (IsNext x) (λ q. IsApart q p) cs (λ q n. subst (λ l. IsApart l p) (sym n.1) (apart_left x p (n.0 ∷ []) a)) content.next) rest_apart);
    ahead = all_append (λ p. AllByRecursion (λ s. IsEarlier s p) (w.seen ++ x ∷ [])) ns cs
        (all_both (λ p. AllByRecursion (λ s. IsEarlier s p) w.seen) (λ p. IsApart x p) (λ p. AllByRecursion (λ s. IsEarlier s p) (w.seen ++ x ∷ [])) ns
        (λ p before a. all_more (λ s. IsEarlier s p) w.seen x before (apart_earlier x p a))
        (all_left (λ p. AllByRecursion (λ s. IsEarlier s p) w.seen) ns (x ∷ []) w.ahead) rest_apart)
        (all_weaken (IsNext x) (λ p. AllByRecursion (λ s. IsEarlier s p) (w.seen ++ x ∷ [])) cs below_later content.next);
    inside_all = all_append (IsInside d id) ns cs (all_left (IsInside d id) ns (x ∷ []) w.inside_all) content.there;
    cover = covers;
    found = next.found;
    all_found = next.all_found;
  }
    where
      below_later : (c : List (List ℕ)) → IsNext x c → AllByRecursion (λ s. IsEarlier s c) (w.seen ++ x ∷ [])
      below_later c n = subst (λ l. AllByRecursion (λ s. IsEarlier s l) (w.seen ++ x ∷ [])) (sym n.1)
          (all_more (λ s. IsEarlier s (x ++ n.0 ∷ [])) w.seen x
          (all_weaken (λ s. IsEarlier s x) (λ s. IsEarlier s (x ++ n.0 ∷ [])) w.seen (λ s before. walk_total.trans s x (x ++ n.0 ∷ []) before (content_later x n.0 [])) seen_earlier)
          (content_later x n.0 []))

      on_rest : (names rest : List (List ℕ)) → names ≡ x ++ rest → IsInside d id names → Contains (w.seen ++ x ∷ []) names ⊎ IsUnderSome (ns ++ cs) names
      on_rest names [] e is = inl (subst (Contains (w.seen ++ x ∷ [])) (sym (e ∙ append-nil x)) (Contains-append_right w.seen (x ∷ []) x (contains_here x [])))
      on_rest names (n ∷ rest) e is =
          let u = content.cover n rest (subst (IsInside d id) e is) in
          inr (record { over = u.over; is_one = Contains-append_right ns cs u.over u.is_one; rest = u.rest; split = e ∙ u.split })

      covers : (names : List (List ℕ)) → IsInside d id names → Contains (w.seen ++ x ∷ []) names ⊎ IsUnderSome (ns ++ cs) names
      covers names is = elim (w.cover names is) [
        | inl c ↦ inl (Contains-append_left w.seen (x ∷ []) names c)
        | inr u ↦ elim (last_cases ns x u.over u.is_one) [
          | inl c ↦ inr (record { over = u.over; is_one = Contains-append_left ns cs u.over c; rest = u.rest; split = u.split })
          | inr e ↦ on_rest names u.rest (u.split ∙ ap (λ l. l ++ u.rest) e) is
        ]
      ]

  -- the entries that come before the next one are those that are seen
  pub walk_before : IsWalkBefore d id x w.seen
  walk_before = record {
    order = w.order;
    each = w.each;
    earlier = seen_earlier;
    whole = λ names is lt. elim (w.cover names is) [
      | inl c ↦ c
      | inr u ↦ elim (last_cases ns x u.over u.is_one) [
        | inl c ↦ absurd (not_both x names (subst (IsEarlier x) (sym u.split) (apart_earlier x (u.over ++ u.rest) (apart_right x u.over u.rest (all_item (λ p. IsApart x p) ns u.over rest_apart c)))) lt)
        | inr e ↦ absurd (under_not_earlier x u.rest (subst (λ l. IsEarlier l x) (u.split ∙ ap (λ l. l ++ u.rest) e) lt))
      ]
    ];
  }
