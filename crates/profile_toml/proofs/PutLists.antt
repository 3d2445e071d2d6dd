-- Members with several keys put into them.
use Rattle.std.proofs.Common.{◌≡◌, ℕ, false, List, [], ◌∷◌, Option, None, Some, map, refl, ap, sym, ◌∙◌}
use Rattle.std.specs.List.{AllByRecursion}
use Rattle.std.specs.Option.{IfSome}
use Rattle.toml.specs.Data.{Data, Members, get_member, same_key}
use Rattle.profile_toml.specs.Documents.{put_member, put_if, puts}
use Rattle.profile_toml.specs.Sound.{IsSound, AreSound}
use Rattle.profile_toml.specs.Unknown.{without_key, without}
use Rattle.profile_toml.proofs.Members.{without_key-none}
use Rattle.profile_toml.proofs.Puts.{get-put, get-put_other, put-taken, AreSound-put}

-- no entry has the key
abbrev pub Past : List ℕ → List (List ℕ × Option Data) → Type 0
Past k es = AllByRecursion (λ e. same_key e.0 k ≡ false) es

-- the keys differ
abbrev pub Apart : List (List ℕ × Option Data) → Type 0
Apart [] = Unit {0}
Apart (e ∷ es) = Past e.0 es × Apart es

-- the members have none of the keys
abbrev pub Fresh : List (List ℕ × Option Data) → Members → Type 0
Fresh es ms = AllByRecursion (λ e. get_member e.0 ms ≡ None) es

other_key : (k l : List ℕ) (o : Option Data) (ms : Members) → same_key k l ≡ false → get_member l (put_if k o ms) ≡ get_member l ms
other_key k l None ms h = refl
other_key k l (Some d) ms h = get-put_other k l d ms h

-- the value at another key
pub get-past : (k : List ℕ) (es : List (List ℕ × Option Data)) (ms : Members) → Past k es → get_member k (puts es ms) ≡ get_member k ms
get-past k [] ms h = refl
get-past k (e ∷ es) ms h = other_key e.0 k e.1 (puts es ms) h.0 ∙ get-past k es ms h.1

-- what was put at a key
pub get-there : (k : List ℕ) (o : Option Data) (ms : Members) → get_member k ms ≡ None → get_member k (put_if k o ms) ≡ o
get-there k None ms h = h
get-there k (Some d) ms h = get-put k d ms

taken_out : (k : List ℕ) (o : Option Data) (ms : Members) → get_member k ms ≡ None → without_key k (put_if k o ms) ≡ ms
taken_out k None ms h = without_key-none k ms h
taken_out k (Some d) ms h = put-taken k d ms h

-- new keys put in and taken out
pub without-puts : (es : List (List ℕ × Option Data)) (ms : Members) → Apart es → Fresh es ms → without (map (λ e. e.0) es) (puts es ms) ≡ ms
without-puts [] ms h none = refl
without-puts (e ∷ es) ms h none =
    ap (without (map (λ f. f.0) es)) (taken_out e.0 e.1 (puts es ms) (get-past e.0 es ms h.0 ∙ none.0)) ∙ without-puts es ms h.1 none.1

sound_put : (most : ℕ) (k : List ℕ) (o : Option Data) (ms : Members) → IfSome o (IsSound most) → AreSound most ms → AreSound most (put_if k o ms)
sound_put most k None ms h sound = sound
sound_put most k (Some d) ms h sound = AreSound-put most k d ms h sound

pub AreSound-puts : (most : ℕ) (es : List (List ℕ × Option Data)) (ms : Members) → AllByRecursion (λ e. IfSome e.1 (IsSound most)) es → AreSound most ms → AreSound most (puts es ms)
AreSound-puts most [] ms h sound = sound
AreSound-puts most (e ∷ es) ms h sound = sound_put most e.0 e.1 (puts es ms) h.0 (AreSound-puts most es ms h.1 sound)
