use Rattle.std.proofs.Common.{length, refl, sym}
use Rattle.std.proofs.lemmas.Option.{slice_get_read}
use Rattle.winner_table.proofs.overrides.mod_at.Goals as goal

pub returns : goal.returns
returns c =
    let entry = c.index-overrides-index.result in
    record {
      entry = entry;
      is = slice_get_read c.args.overrides.now (length c.args.overrides.now) c.args.index entry refl c.requires c.index-overrides-index.is;
      to = sym c.mod_id.ensures;
    }
