-- Laws of every list of steps.
use Rattle.std.proofs.Common.{◌≡◌, List, [], ◌∷◌, ◌++◌, refl, sym, ap, ◌∙◌, subst, inl, inr}
use Rattle.std.specs.Result.{IsErr, IsErrAnd}
use Rattle.std.specs.declared.result.Result.{Result}
use Rattle.std.specs.declared.result.Result.TheVariants.{Ok, Err}
use Rattle.tree_fs.specs.Disk.{Disk}
use Rattle.tree_fs.specs.declared.tree.TreeError.{TreeError}
use Rattle.tree_fs.specs.declared.tree.TreeError.TheVariants as error
use Rattle.tree_fs.specs.Story.{Story, disk_of}
use Rattle.command_steps.specs.declared.limits.Limits.{Limits}
use Rattle.command_steps.specs.declared.stop.Stop.{Stop}
use Rattle.command_steps.specs.Stops.{IsFault, tree_stop}
use Rattle.command_steps.specs.Steps.{Step, Passes, Refuses, next}
use Rattle.command_steps.specs.Orders.{after_steps, AllPass, IsFirst, IsWhy, Passed, Takes}

pub after-append : (xs ys : List Step) (s : Story) → after_steps (xs ++ ys) s ≡ after_steps ys (after_steps xs s)
after-append [] ys s = refl
after-append (x ∷ xs) ys s = after-append xs ys (next x s)

all-append : (xs ys : List Step) (limits : Limits) (s : Story) → AllPass xs limits s → AllPass ys limits (after_steps xs s) → AllPass (xs ++ ys) limits s
all-append [] ys limits s a b = b
all-append (x ∷ xs) ys limits s a b = (a.0, all-append xs ys limits (next x s) a.1 b)

first-front : (xs ys : List Step) (limits : Limits) (s : Story) (stop : Stop) (new : Story) → IsFirst xs limits s stop new → IsFirst (xs ++ ys) limits s stop new
first-front [] ys limits s stop new first = absurd first
first-front (x ∷ xs) ys limits s stop new (inl here) = inl here
first-front (x ∷ xs) ys limits s stop new (inr later) = inr (later.0, first-front xs ys limits (next x s) stop new later.1)

first-back : (xs ys : List Step) (limits : Limits) (s : Story) (stop : Stop) (new : Story) → AllPass xs limits s → IsFirst ys limits (after_steps xs s) stop new → IsFirst (xs ++ ys) limits s stop new
first-back [] ys limits s stop new all first = first
first-back (x ∷ xs) ys limits s stop new all first = inr (all.0, first-back xs ys limits (next x s) stop new all.1 first)

-- The steps of a command, some and then some more

pub and_then : {V W : Type 0} {xs ys : List Step} {limits : Limits} {a b c : Story} {G : V → Type 0} {H : W → Type 0} {v : V} {w : W} → Passed xs limits a b G v → Passed ys limits b c H w → Passed (xs ++ ys) limits a c H w
and_then {xs = xs} {ys = ys} {limits = limits} {a = a} p q = record {
  all = all-append xs ys limits a p.all (subst (AllPass ys limits) p.story q.all);
  story = q.story ∙ ap (after_steps ys) p.story ∙ sym (after-append xs ys a);
  gives = q.gives;
}

pub stops_at : {xs : List Step} {limits : Limits} {a : Story} {stop : Stop} {c : Story} (rest : List Step) → IsWhy xs limits a stop c → IsWhy (xs ++ rest) limits a stop c
stops_at {xs = xs} {limits = limits} {a = a} {stop = stop} {c = c} rest is = record {
  why = elim is.why [ inl fault ↦ inl fault | inr first ↦ inr (first-front xs rest limits a stop c first) ];
}

pub stops_later : {V : Type 0} {xs ys : List Step} {limits : Limits} {a b c : Story} {G : V → Type 0} {v : V} {stop : Stop} → Passed xs limits a b G v → IsWhy ys limits b stop c → IsWhy (xs ++ ys) limits a stop c
stops_later {xs = xs} {ys = ys} {limits = limits} {a = a} {c = c} {stop = stop} p is = record {
  why = elim is.why [
    | inl fault ↦ inl fault
    | inr first ↦ inr (first-back xs ys limits a stop c p.all (subst (λ s. IsFirst ys limits s stop c) p.story first))
  ];
}

pub takes_then : {V W : Type 0} {xs ys : List Step} {limits : Limits} {a b c : Story} {G : V → Type 0} {H : W → Type 0} {v : V} (r : Result W Stop) → Passed xs limits a b G v → Takes ys limits b c H r → Takes (xs ++ ys) limits a c H r
takes_then (Ok w) p t = record { passed = and_then p t.passed; stopped = tt }
takes_then (Err e) p t = record { passed = tt; stopped = stops_later p t.stopped }

-- what a `?` hands on
pub handed_on : {V : Type 0} (r : Result V Stop) (e : Stop) → IsErr r × IsErrAnd r (λ x. x ≡ e) → r ≡ Err e
handed_on (Ok v) e is = absurd is.1
handed_on (Err x) e is = ap Err is.1

pub takes_err : {W : Type 0} {xs : List Step} {limits : Limits} {a c : Story} {H : W → Type 0} (r : Result W Stop) (e : Stop) → IsErr r × IsErrAnd r (λ x. x ≡ e) → IsWhy xs limits a e c → Takes xs limits a c H r
takes_err {xs = xs} {limits = limits} {a = a} {c = c} {H = H} r e is why = subst (λ x. Takes xs limits a c H x) (sym (handed_on r e is)) (record { passed = tt; stopped = why })

pub faults : (steps : List Step) (limits : Limits) (a : Story) (stop : Stop) (c : Story) → IsFault stop → IsWhy steps limits a stop c
faults steps limits a stop c fault = record { why = inl fault }

pub tree_fault : (e : TreeError) → IsFault (tree_stop e)
tree_fault error.Failed = tt
tree_fault error.Memory = tt

-- At most one of "all pass" and "the first refusal", and one first refusal

module _ (exclusive : (step : Step) (limits : Limits) (d : Disk) (stop : Stop) → Passes step limits d → Refuses step limits d stop → ⊥) where
  pub none_first : (steps : List Step) (limits : Limits) (s : Story) (stop : Stop) (new : Story) → AllPass steps limits s → IsFirst steps limits s stop new → ⊥
  none_first [] limits s stop new all first = first
  none_first (step ∷ steps) limits s stop new all (inl here) = exclusive step limits (disk_of s) stop all.0 here.0
  none_first (step ∷ steps) limits s stop new all (inr later) = none_first steps limits (next step s) stop new all.1 later.1

  module _ (unique : (step : Step) (limits : Limits) (d : Disk) (one other : Stop) → Refuses step limits d one → Refuses step limits d other → one ≡ other) where
    pub one_first : (steps : List Step) (limits : Limits) (s : Story) (one other : Stop) (new left : Story) → IsFirst steps limits s one new → IsFirst steps limits s other left → (one ≡ other) × (new ≡ left)
    one_first [] limits s one other new left first second = absurd first
    one_first (step ∷ steps) limits s one other new left (inl a) (inl b) = (unique step limits (disk_of s) one other a.0 b.0, a.1 ∙ sym b.1)
    one_first (step ∷ steps) limits s one other new left (inl a) (inr b) = absurd (exclusive step limits (disk_of s) one b.0 a.0)
    one_first (step ∷ steps) limits s one other new left (inr a) (inl b) = absurd (exclusive step limits (disk_of s) other a.0 b.0)
    one_first (step ∷ steps) limits s one other new left (inr a) (inr b) = one_first steps limits (next step s) one other new left a.1 b.1
