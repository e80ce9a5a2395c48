-- Every call of every story is computed by the checker.
use Rattle.std.proofs.Common.{refl, lit<, lit≤}
use lib.Count.{ones}
use Rattle.quorum.specs.Laws.{majority_lawful, read_one_write_all_lawful}
use Rattle.rules.specs.Calls.{opening, advancing, beginning_write, beginning_read, delivering, receives}
use Rattle.rules.specs.Input.{takes_write, queues_for, queues_all, acknowledges_all}
use Rattle.rules.specs.Ranges.{named_fit}
use Rattle.rules.specs.Output.{hears_all, after_answer, after_invalidation}
use Rattle.guarantee.specs.Story.{outcome_of}
use Rattle.guarantee.specs.Alive.{write_then_read, WriteThenRead, under_lease, UnderLease, lease_over, LeaseOver, records_out, RecordsOut}
use Rattle.guarantee.proofs.alive.stories_end.Goals as goal

infixl 5 ◌then◌
◌then◌ : {A B : Type 0} → A → B → A × B
a then b = (a, b)

write_then_read_holds : WriteThenRead
unfolding ones opening advancing beginning_write beginning_read delivering receives takes_write queues_for queues_all acknowledges_all hears_all after_answer after_invalidation named_fit outcome_of write_then_read
write_then_read_holds = record {
  covered = record {
    inputs = majority_lawful 1 (lit≤ tt) (lit≤ tt);
    outputs = read_one_write_all_lawful 1 (lit≤ tt) (lit≤ tt);
    closed = refl;
  };
  write_begins = record { made = lit< tt; call = refl; said = refl };
  write_gets = record {
    sends = record {
      made = lit< tt;
      number = 2;
      call = refl;
      input = 0;
      object = 0;
      version = record { 0 = 131073 };
      value = 7;
      is = refl;
      logged = (0, lit< tt, refl);
    };
    begins = 1;
    earlier = lit< tt;
    begun = (0, 7, record { made = lit< tt; call = refl; said = refl });
  };
  write_ends = record { made = lit< tt; said = refl };
  read_begins = record { made = lit< tt; call = refl; said = refl };
  read_ends = record { made = lit< tt; said = refl };
}

under_lease_holds : UnderLease
unfolding ones opening advancing beginning_write beginning_read delivering receives takes_write queues_for queues_all acknowledges_all hears_all after_answer after_invalidation named_fit outcome_of write_then_read under_lease
under_lease_holds = record {
  covered = record {
    inputs = majority_lawful 1 (lit≤ tt) (lit≤ tt);
    outputs = read_one_write_all_lawful 1 (lit≤ tt) (lit≤ tt);
    closed = refl;
  };
  first_write_ends = record { made = lit< tt; said = refl };
  first_read_ends = record { made = lit< tt; said = refl };
  write_begins = record { made = lit< tt; call = refl; said = refl };
  write_gets = record {
    sends = record {
      made = lit< tt;
      number = 10;
      call = refl;
      input = 0;
      object = 0;
      version = record { 0 = 196611 };
      value = 8;
      is = refl;
      logged = (0, lit< tt, refl);
    };
    begins = 12;
    earlier = lit< tt;
    begun = (0, 8, record { made = lit< tt; call = refl; said = refl });
  };
  invalidates = refl;
  names_nobody = refl;
  not_yet = refl;
  not_enough = refl;
  acknowledged = refl;
  names_it = refl;
  write_completes = record { made = lit< tt; before = refl; after = refl };
  write_ends = record { made = lit< tt; said = refl };
  read_begins = record { made = lit< tt; call = refl; said = refl };
  read_completes = record { made = lit< tt; before = refl; after = refl };
  read_ends = record { made = lit< tt; said = refl };
}

lease_over_holds : LeaseOver
unfolding ones opening advancing beginning_write beginning_read delivering receives takes_write queues_for queues_all acknowledges_all hears_all after_answer after_invalidation named_fit outcome_of lease_over
lease_over_holds = record {
  covered = record {
    inputs = majority_lawful 1 (lit≤ tt) (lit≤ tt);
    outputs = read_one_write_all_lawful 1 (lit≤ tt) (lit≤ tt);
    closed = refl;
  };
  first_read_begins = record { made = lit< tt; call = refl; said = refl };
  first_read_ends = record { made = lit< tt; said = refl };
  time_passes = refl;
  write_begins = record { made = lit< tt; call = refl; said = refl };
  write_gets = record {
    sends = record {
      made = lit< tt;
      number = 6;
      call = refl;
      input = 0;
      object = 0;
      version = record { 0 = 131074 };
      value = 7;
      is = refl;
      logged = (0, lit< tt, refl);
    };
    begins = 8;
    earlier = lit< tt;
    begun = (0, 7, record { made = lit< tt; call = refl; said = refl });
  };
  none_waits = refl;
  one_waits = refl;
  names_it = refl;
  write_ends = record { made = lit< tt; said = refl };
  read_begins = record { made = lit< tt; call = refl; said = refl };
  asked = refl;
  brought = refl;
  acknowledged = refl;
  still_waits = refl;
  waits_no_more = refl;
  read_ends = record { made = lit< tt; said = refl };
}

records_out_holds : RecordsOut
unfolding ones opening advancing beginning_write beginning_read delivering receives takes_write queues_for queues_all acknowledges_all hears_all after_answer after_invalidation named_fit outcome_of records_out
records_out_holds = record {
  covered = record {
    inputs = majority_lawful 1 (lit≤ tt) (lit≤ tt);
    outputs = read_one_write_all_lawful 8 (lit≤ tt) (lit≤ tt);
    closed = refl;
  };
  first_read_ends = record { made = lit< tt; said = refl };
  time_passes = refl;
  writes_begin =
      tt
      then record { made = lit< tt; call = refl; said = refl }
      then record { made = lit< tt; call = refl; said = refl }
      then record { made = lit< tt; call = refl; said = refl }
      then record { made = lit< tt; call = refl; said = refl }
      then record { made = lit< tt; call = refl; said = refl }
      then record { made = lit< tt; call = refl; said = refl }
      then record { made = lit< tt; call = refl; said = refl }
      then record { made = lit< tt; call = refl; said = refl }
      then record { made = lit< tt; call = refl; said = refl };
  writes_end =
      tt
      then record { made = lit< tt; said = refl }
      then record { made = lit< tt; said = refl }
      then record { made = lit< tt; said = refl }
      then record { made = lit< tt; said = refl }
      then record { made = lit< tt; said = refl }
      then record { made = lit< tt; said = refl }
      then record { made = lit< tt; said = refl }
      then record { made = lit< tt; said = refl }
      then record { made = lit< tt; said = refl };
  all_used = refl;
  first_epochs = refl;
  some_freed = refl;
  next_epochs = refl;
  read_begins = record { made = lit< tt; call = refl; said = refl };
  brought = refl;
  asked = refl;
  read_ends = record { made = lit< tt; said = refl };
}

pub returns : goal.returns
returns c = record {
  write_then_read_holds = write_then_read_holds;
  under_lease_holds = under_lease_holds;
  lease_over_holds = lease_over_holds;
  records_out_holds = records_out_holds;
}
