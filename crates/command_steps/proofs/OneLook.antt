-- What is found of the enabled mods of a disk is found in one way.
use Rattle.std.proofs.Common.{◌≡◌, ℕ, List, refl, subst}
use Rattle.std.specs.Ordering.{nat_cmp}
use Rattle.std.specs.Cmp.Lexicographic.{slice_cmp}
use Rattle.std.specs.declared.cmp.Ordering.{Ordering}
use Rattle.std.specs.declared.cmp.Ordering.TheVariants.{Less, Equal, Greater}
use Rattle.tree_fs.specs.Disk.{Disk}
use Rattle.list_laws.proofs.Orders.{text_turned, text_tied}
use Rattle.stage_scan.specs.declared.scan.Scan.{Scan}
use Rattle.winner_table.specs.declared.wins.WinRow.{WinRow}
use Rattle.winner_table.specs.Folders.{IsLeastFolder}
use Rattle.command_steps.specs.Profiles.{enabled_ids, IsGraphOf, IsOrderOf}
use Rattle.command_steps.specs.Scans.{AreScans}
use Rattle.command_steps.specs.Looks.{Look, IsLook, AreWins, placed}
use Rattle.command_steps.proofs.OneProfile.{one_profile, one_graph, one_order}
use Rattle.command_steps.proofs.OneScan.{one_scans}

pub one_look : (d : Disk) (a b : Look) → IsLook d a → IsLook d b → a ≡ b
one_look d a b x y =
    let profile : a.profile ≡ b.profile = one_profile d a.profile b.profile x.profile y.profile in
    let graph : a.graph ≡ b.graph = one_graph b.profile a.graph b.graph (subst (λ p. IsGraphOf p a.graph) profile x.graph) y.graph in
    let order : a.order ≡ b.order = one_order b.graph a.order b.order (subst (λ g. IsOrderOf g a.order) graph x.order) y.order in
    let scans : a.scans ≡ b.scans = one_scans d (enabled_ids b.profile) a.scans b.scans (subst (λ p. AreScans d (enabled_ids p) a.scans) profile x.scans) y.scans in
    λ i. record { profile = profile i; graph = graph i; order = order i; scans = scans i }

-- The least path that another lies below

pub one_folder : (scans : List Scan) (order p q : List ℕ) → IsLeastFolder scans order p → IsLeastFolder scans order q → p ≡ q
one_folder scans order p q a b = by (slice_cmp nat_cmp p q) refl
  where
    by : (o : Ordering) → slice_cmp nat_cmp p q ≡ o → p ≡ q
    by Less is = absurd (b.least p a.below a.provided a.provided_below a.extending is)
    by Equal is = text_tied p q is
    by Greater is = absurd (a.least q b.below b.provided b.provided_below b.extending (text_turned p q is))

pub no_folder : (look : Look) (wins : List WinRow) (path : List ℕ) → AreWins look wins → IsLeastFolder (placed look) look.order path → ⊥
no_folder look wins path won folder =
    won.apart path (won.winners.whole path folder.provided) (record { below = folder.below; among = won.winners.whole folder.below folder.provided_below; extending = folder.extending })
