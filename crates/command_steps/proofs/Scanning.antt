-- The scans of mods, one after the other.
use Rattle.std.proofs.Common.{◌≡◌, ℕ, ◌+◌, ◌-◌, ◌<◌, ◌≤◌, List, [], ◌∷◌, ◌++◌, length, take, drop, get_or, suc, refl, sym, subst, ◌∙◌, inl, inr, arith}
use Rattle.std.specs.List.{AllByRecursion}
use Rattle.std.specs.declared.result.Result.TheVariants.{Ok}
use Rattle.tree_fs.specs.Disk.{Disk}
use Rattle.tree_fs.specs.Story.{Story, disk_of}
use Rattle.list_laws.proofs.Alls.{all_more}
use Rattle.list_laws.proofs.Lists.{around}
use Rattle.profile_toml.specs.Records.{ProfileData}
use Rattle.stage_scan.specs.declared.scan.Scan.{Scan}
use Rattle.stage_scan.specs.Walks.{IsScan}
use Rattle.command_steps.specs.declared.limits.Limits.{Limits}
use Rattle.command_steps.specs.declared.stop.Stop.{Stop}
use Rattle.command_steps.specs.Profiles.{HasProfile, enabled_ids}
use Rattle.command_steps.specs.Scans.{IsCounted, CountTogether, HaveNoFault, IsScanFault, IsTurned}
use Rattle.command_steps.specs.Steps.{scans}
use Rattle.command_steps.specs.Orders.{IsWhy, Takes}

abbrev IsOwn : Disk → Scan → Type 0
IsOwn d s = IsScan d s.mod_id s

-- these mods are scanned, and so much of the limit is left
pub record AreScannedTo (d : Disk) (ids : List (List ℕ)) (most left : ℕ) (found : List Scan) : Type 0 where
  pub each : AllByRecursion (IsOwn d) found
  pub total : ℕ
  pub counts : CountTogether d ids total
  pub rest : total + left ≡ most

pub none_scanned : (d : Disk) (most : ℕ) → AreScannedTo d [] most most []
none_scanned d most = record { each = tt; total = 0; counts = refl; rest = omega arith }

count_more : (d : Disk) (ids : List (List ℕ)) (id : List ℕ) (total count : ℕ) → CountTogether d ids total → IsCounted d id count → CountTogether d (ids ++ id ∷ []) (total + count)
count_more d [] id total count none counted = (count, 0, counted, refl, omega (arith, none))
count_more d (x ∷ xs) id total count all counted =
    let sum = all.4 in
    (all.0, all.1 + count, all.2, count_more d xs id all.1 count all.3 counted, omega (arith, sum))

pub scans_more : (d : Disk) (ids : List (List ℕ)) (id : List ℕ) (most left : ℕ) (found : List Scan) (scan : Scan) → AreScannedTo d ids most left found → IsScan d id scan → scan.entries ≤ left
    → AreScannedTo d (ids ++ id ∷ []) most (left - scan.entries) (found ++ scan ∷ [])
scans_more d ids id most left found scan so_far is within =
    let rest = so_far.rest in
    record {
      each = all_more (IsOwn d) found scan so_far.each (subst (λ n. IsScan d n scan) (sym is.same) is);
      total = so_far.total + scan.entries;
      counts = count_more d ids id so_far.total scan.entries so_far.counts (record { folder = is.folder; inside = is.entries });
      rest = omega (arith, rest, within);
    }

-- a mod has the first fault
pub turned_at : (p : ProfileData) (limits : Limits) (ids : List (List ℕ)) (i : ℕ) (id : List ℕ) (left : ℕ) (found : List Scan) (s t : Story) (stop : Stop) → HasProfile (disk_of s) p → ids ≡ enabled_ids p → i < length ids → id ≡ get_or ids i id
    → AreScannedTo (disk_of s) (take i ids) limits.entries left found → t ≡ s → IsTurned (disk_of s) id limits.entries left stop → IsWhy (scans ∷ []) limits s stop t
turned_at p limits ids i id left found s t stop has same low at so_far stays (inl fault) = record { why = inl fault }
turned_at p limits ids i id left found s t stop has same low at so_far stays (inr fault) =
    let rest = so_far.rest in
    let is : left ≡ limits.entries - so_far.total = omega (arith, rest) in
    record {
      why = inr (inl (
        (
          p,
          has,
          record {
            front = take i ids;
            id = id;
            back = drop (suc i) ids;
            here = sym same ∙ around ids i id low at;
            total = so_far.total;
            counts = so_far.counts;
            within = omega (arith, rest);
            fault = subst (λ n. IsScanFault (disk_of s) id limits.entries n stop) is fault;
          },
        ),
        stays,
      ));
    }

-- all are scanned
pub all_scanned : {V : Type 0} (p : ProfileData) (limits : Limits) (ids : List (List ℕ)) (left : ℕ) (found : List Scan) (s t : Story) (G : V → Type 0) (v : V) → HasProfile (disk_of s) p → ids ≡ enabled_ids p
    → AreScannedTo (disk_of s) ids limits.entries left found → t ≡ s → G v → Takes (scans ∷ []) limits s t G (Ok v)
all_scanned p limits ids left found s t G v has same so_far stays gives =
    let rest = so_far.rest in
    record {
      passed = record {
        all = ((p, has, subst (λ l. HaveNoFault (disk_of s) l limits.entries) same (record { total = so_far.total; counts = so_far.counts; within = omega (arith, rest) })), tt);
        story = stays;
        gives = gives;
      };
      stopped = tt;
    }
