-- What a row in the code shows.
use Rattle.std.specs.Prelude.{ℕ, List, [], ◌∷◌}
use Rattle.std.specs.Fmt.{decimal}
use Rattle.tree_fs.specs.Texts.{place_text}
use Rattle.answer_lines.specs.declared.rows.Carried.{Carried}
use Rattle.answer_lines.specs.declared.rows.Carried.TheVariants.{Nothing, Text, Texts, Ids, Place, Entry, Number, Counted, Spot}
use Rattle.answer_lines.specs.declared.rows.RowView.{RowView}
use Rattle.answer_lines.specs.Refusals.{RefusalRow, refusal, spot_text}

-- the texts of the values
abbrev pub texts_of : Carried → List (List ℕ)
texts_of Nothing = []
texts_of (Text text) = text.now ∷ []
texts_of (Texts first second) = first.now ∷ second.now ∷ []
texts_of (Ids ids) = ids.now
texts_of (Place place) = place_text place.now ∷ []
texts_of (Entry folder name) = place_text folder.now ∷ name.now ∷ []
texts_of (Number n) = decimal n ∷ []
texts_of (Counted text n) = text.now ∷ decimal n ∷ []
texts_of (Spot spot) = spot_text spot ∷ []

abbrev pub row_shown : RowView → RefusalRow
row_shown r = refusal r.number r.name.now (texts_of r.carried)
