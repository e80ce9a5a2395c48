-- What a renewal request leaves, part by part.
use Rattle.std.specs.Prelude.{ℕ, ◌+◌, if◌then◌else◌, slice_set}
use Rattle.numbers.specs.declared.time.Time.{Time}
use Rattle.numbers.specs.Numbers.{none}
use Rattle.rules.specs.declared.kept.Held.{Held}
use Rattle.rules.specs.declared.kept.Newest.{Newest}
use Rattle.rules.specs.declared.renewal.Renewal.{Renewal}
use Rattle.rules.specs.Input.{Input, held, ledger}
use Rattle.rules.specs.Renewals.{asks_object}

-- the server with a lease for output server j
abbrev pub with_lease : ℕ → ℕ → Input → Input
with_lease lease j I =
    let end : Time = record { 0 = I.clock.0 + lease } in
    record I { ledgers = slice_set I.ledgers j (record (ledger I j) { lease_end = end }) }

-- the server that has given the version that it holds, where it was asked for
abbrev pub with_given : Renewal → Input → Input
with_given r I =
    let h : Held = held I r.object in
    record I {
      objects =
          if asks_object r.parts
          then slice_set I.objects r.object (record h { last_read = h.version })
          else I.objects;
    }

-- version and value of the object, where it was asked for
abbrev pub given_of : Renewal → Input → Newest
given_of r I = record {
  version = if asks_object r.parts then (held I r.object).version else none;
  value = if asks_object r.parts then (held I r.object).value else 0;
}
