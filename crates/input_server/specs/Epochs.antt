-- Epochs that can still be followed by another one.
use Rattle.std.specs.Prelude.{ℕ, ◌+◌, Bool, List, nat_lt, slice_index_or, slice_set}
use Rattle.numbers.specs.Numbers.{last_epoch}
use Rattle.quorum.specs.Sets.{all_below}
use Rattle.rules.specs.declared.kept.Ledger.{Ledger}
use Rattle.rules.specs.Input.{Input, no_ledger, ledger}

-- output server j can be given a further epoch
abbrev pub has_epoch : List Ledger → ℕ → Bool
has_epoch ls j = nat_lt (slice_index_or ls j no_ledger).epoch.0 last_epoch

-- each output server below m can
abbrev pub have_epochs : List Ledger → ℕ → Bool
have_epochs ls m = all_below m (has_epoch ls)

-- the server with the next epoch of output server j
abbrev pub next_epoch : ℕ → Input → Input
next_epoch j I =
    let l : Ledger = ledger I j in
    record I { ledgers = slice_set I.ledgers j (record l { epoch = record { 0 = l.epoch.0 + 1 } }) }
