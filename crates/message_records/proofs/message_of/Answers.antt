-- `message_of` meets its contract: every value is its number's.
use mathlib.Core.Path.{◌≡◌, sym, ap, ◌∙◌}
use mathlib.Core.List.{map}
use Prim.Native.Nat.{◌<◌}
use native.Mathlib.Omega.{arith}
use lib.IntN.{pos}
use lib.ListN.{length}
use Rattle.std.proofs.Common.{rules}
use Rattle.std.proofs.lemmas.List.{ext_get_or, length-map, get_or-map}
use Rattle.paper_messages.specs.Records.{value_of, message}
use Rattle.message_records.proofs.message_of.Goals as goal

pub returns : goal.returns
returns g c =
    let long : length c.map.result ≡ g.row.N = c.map.ensures.items.long in
    let as_long : length c.args.numbers ≡ g.row.N = search rules in
    let same : c.map.result ≡ map value_of c.args.numbers =
    ext_get_or (pos 0) c.map.result (map value_of c.args.numbers)
    (long ∙ sym as_long ∙ sym (length-map c.args.numbers value_of))
    (λ i h.
    let inside : i < length c.args.numbers = omega arith in
    (c.map.ensures.items.at i 0 (pos 0) (omega arith)).2.met
    ∙ sym (get_or-map value_of c.args.numbers i 0 (pos 0) inside)) in
    c.message.ensures ∙ ap (message c.args.kind) same
