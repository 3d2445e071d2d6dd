-- What the conditions and the absence of refusals tell, row by row and winner by winner.
use Rattle.std.proofs.Common.{◌≡◌, Bool, true, false, List, refl, ap, inl, inr, subst}
use Rattle.std.specs.List.{Contains}
use Rattle.std.specs.Str.{bytes_eq}
use Rattle.std.specs.declared.option.Option.{Option}
use Rattle.std.specs.declared.option.Option.TheVariants.{None, Some}
use Rattle.list_laws.proofs.Alls.{all_item}
use Rattle.list_laws.proofs.Containing.{contains_none, map_contains, filter_map_contains}
use Rattle.rel_paths.specs.Names.{IsFreePath}
use Rattle.tree_fs.specs.declared.name.Kind.{Kind}
use Rattle.tree_fs.specs.declared.name.Kind.TheVariants.{Absent, File, Folder, Other}
use Rattle.tree_fs.specs.Spot.{IsBelow}
use Rattle.tree_fs.specs.Places.{game_spot}
use Rattle.tree_fs.specs.Disk.{Disk, IsFile, kind_of, is_one_file}
use Rattle.tree_fs.specs.Parts.{bytes_at}
use Rattle.sha2.specs.Sha256.{sha256}
use Rattle.manifest_json.specs.declared.manifest.Row.{Row}
use Rattle.change_choices.specs.declared.class.Class.{Class}
use Rattle.change_detect.specs.Classes.{class_by, class_of, unless_changed, quick_class_of, staged_of}
use Rattle.change_detect.specs.Changes.{change_of}
use Rattle.desk_model.specs.Deployed.{Win, won_spot}
use Rattle.plan_model.proofs.Rows.{below-extends}
use Rattle.deploy_plan.specs.Wins.{won_paths, AreSoundWins}
use Rattle.deploy_plan.specs.Refusals.{HasNoChanges, NoneTurned}

won : (wins : List Win) (w : Win) → Contains wins w → Contains (won_paths wins) w.path
won wins w c = map_contains (λ (v : Win). v.path) wins w c

pub win_free : (a : Disk) (wins : List Win) → AreSoundWins a wins → (w : Win) → Contains wins w → IsFreePath w.path
win_free a wins sound w c = all_item IsFreePath (won_paths wins) w.path sound.good (won wins w c)

pub wins_apart : (a : Disk) (wins : List Win) → AreSoundWins a wins → (w v : Win) → Contains wins w → Contains wins v → ¬ IsBelow (game_spot w.path) (game_spot v.path)
wins_apart a wins sound w v c d b =
    sound.apart w.path (won wins w c) (record { below = v.path; among = won wins v d; extending = below-extends w.path v.path b })

pub win_staged : (a : Disk) (wins : List Win) → AreSoundWins a wins → (w : Win) → Contains wins w → IsFile a (won_spot w)
win_staged a wins sound w c = all_item (λ (v : Win). IsFile a (won_spot v)) wins w sound.staged c

pub turned_above : (rows : List Row) (wins : List Win) → NoneTurned rows wins → (w : Win) (r : Row) → Contains wins w → Contains rows r → ¬ IsBelow (game_spot r.path) (game_spot w.path)
turned_above rows wins unturned w r c d b = unturned w.path (won wins w c) (record { row = r; listed = d; turned = inl (below-extends r.path w.path b) })

pub turned_below : (rows : List Row) (wins : List Win) → NoneTurned rows wins → (w : Win) (r : Row) → Contains wins w → Contains rows r → ¬ IsBelow (game_spot w.path) (game_spot r.path)
turned_below rows wins unturned w r c d b = unturned w.path (won wins w c) (record { row = r; listed = d; turned = inr (below-extends w.path r.path b) })

-- only two names of one file are clean by the quick test
quick_one_file : (g s : Kind) (one same : Bool) → unless_changed (class_by g s one same) ≡ None → one ≡ true
quick_one_file g s true same e = refl
quick_one_file Absent Absent false same e = absurd (cc)
quick_one_file Absent File false same e = absurd (cc)
quick_one_file Absent Folder false same e = absurd (cc)
quick_one_file Absent Other false same e = absurd (cc)
quick_one_file File Absent false same e = absurd (cc)
quick_one_file File File false same e = absurd (cc)
quick_one_file File Folder false same e = absurd (cc)
quick_one_file File Other false same e = absurd (cc)
quick_one_file Folder Absent false same e = absurd (cc)
quick_one_file Folder File false same e = absurd (cc)
quick_one_file Folder Folder false same e = absurd (cc)
quick_one_file Folder Other false same e = absurd (cc)
quick_one_file Other Absent false same e = absurd (cc)
quick_one_file Other File false same e = absurd (cc)
quick_one_file Other Folder false same e = absurd (cc)
quick_one_file Other Other false same e = absurd (cc)

-- where no change is found, each row is clean
pub no_change-clean : (a : Disk) (rows : List Row) → HasNoChanges a rows → (r : Row) → Contains rows r → quick_class_of a r ≡ None
no_change-clean a rows none r c = by (quick_class_of a r) refl
  where
    by : (o : Option Class) → quick_class_of a r ≡ o → o ≡ None
    by None e = refl
    by (Some class) e =
        absurd (contains_none _ (subst (λ l. Contains l (record { path = r.path; class = class })) none.clean
        (filter_map_contains (λ (s : Row). change_of s (quick_class_of a s)) rows r (record { path = r.path; class = class }) c (ap (change_of r) e))))

pub clean_one_file : (a : Disk) (rows : List Row) → HasNoChanges a rows → (r : Row) → Contains rows r → is_one_file (a.now (game_spot r.path)) (a.now (staged_of r)) ≡ true
unfolding class_of
clean_one_file a rows none r c =
    quick_one_file (kind_of a (game_spot r.path)) (kind_of a (staged_of r)) (is_one_file (a.now (game_spot r.path)) (a.now (staged_of r))) (bytes_eq (sha256 (bytes_at a (game_spot r.path))) r.digest.bytes)
    (no_change-clean a rows none r c)
