use Rattle.std.proofs.Common.{◌≤◌, string_bytes, arith}
use Rattle.std.proofs.lemmas.Str.{IsUtf8-string_bytes}
use Rattle.toml.specs.Data.{members_depth}
use Rattle.toml.specs.View.{table_view}
use Rattle.profile_toml.proofs.DocumentFacts.{accepted}
use Rattle.profile_toml.proofs.Puts.{members_depth-within}
use Rattle.profile_toml.proofs.print.print_table.Goals as goal

pub returns-in-Ok : goal.returns-in-Ok
returns-in-Ok c =
    let ms = table_view c.args.table in
    let depth : members_depth ms ≤ 63 = omega (arith, members_depth-within ms, c.requires.shallow) in
    rw c.into_bytes.ensures.value (accepted (string_bytes c.in-Ok.text) ms (IsUtf8-string_bytes c.in-Ok.text) (c.in-Ok.ensures.reads_back (omega (arith, depth))))
