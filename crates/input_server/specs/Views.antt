-- An input server as the rules speak of it.
use Rattle.rules.specs.Input.{Input}
use Rattle.chain.specs.Waiting.{waiting_of}
use Rattle.input_server.specs.declared.server.InputServer.{InputServer}

abbrev pub input_of : InputServer → Input
input_of s = record {
  clock = record { 0 = s.clock.micros };
  lc = s.lc;
  objects = s.objects;
  ledgers = s.ledgers;
  waiting = waiting_of s.chains;
}
