use Rattle.std.proofs.Common.{◌≡◌, rules}
use Rattle.std.specs.declared.result.Result.TheVariants.{Ok}
use Rattle.profile_toml.specs.Profiles.{profile_of}
use Rattle.profile_write.proofs.Putting.{put_whole}
use Rattle.profile_write.proofs.put.put_profile.Goals as goal

pub returns-clause-done : goal.returns-clause-done
returns-clause-done g c = λ told.
    let text = c.deref.result.now in
    let reads : profile_of text ≡ Ok c.args.profile = search rules in
    put_whole c.args.profile (g.T.Tree.story c.args.tree.now) (g.T.Tree.story c.write_profile.new.tree)
    (record {
      text = text;
      reads = reads;
      stops = λ quiet. c.write_profile.ensures.stops told quiet;
      keeps = λ quiet. c.write_profile.ensures.keeps told quiet;
      syncs = c.write_profile.ensures.syncs told;
    })
    c.write_profile.result (λ quiet. c.write_profile.ensures.done told quiet)
