use Rattle.json.proofs.Printed.Utf8.{IsUtf8-quoted}
use Rattle.rt_schema.proofs.plain_reader.first_token.Goals as goal

pub returns-in-Some : goal.returns-in-Some
returns-in-Some c =
    let known = c.in-Some.ensures {u = tt} in
    (known.text, tt, IsUtf8-quoted c.in-Some.string.now known.utf8)
