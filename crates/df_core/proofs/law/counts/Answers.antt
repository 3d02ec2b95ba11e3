use Rattle.df_core.proofs.Walked.PortsThere.{ports_there}
use Rattle.df_core.proofs.Walked.FromSound.{facts_of}
use Rattle.df_core.proofs.Telling.Counting.{rest_count, fired_count, unfired_count, way_count, once_kept}
use Rattle.df_core.proofs.Telling.Ends.{passed, after_fired, same_effect}
use Rattle.df_core.proofs.Telling.Waves.{way_wave}
use Rattle.df_core.proofs.Telling.Place.{fault_place}
use Rattle.df_core.proofs.law.counts.Goals as goal

pub returns : goal.returns
returns c = record {
  rest = λ image world formed sound state fit whole t. rest_count image world
      (facts_of image world (ports_there image formed) sound) state fit whole.fired t;
  fired = λ image world formed sound state fit once. fired_count image world
      (facts_of image world (ports_there image formed) sound) state fit once;
  fewer = λ image world formed sound state fit once u x fx n. unfired_count image world
      (facts_of image world (ports_there image formed) sound) state fit once u x fx n;
  once = λ image world formed sound event old new fit once step. once_kept image world
      (facts_of image world (ports_there image formed) sound) old new event fit once step;
  spent = λ image world formed sound state fit grounded going none. (
    _,
    after_fired image world (facts_of image world (ports_there image formed) sound) state fit going
        grounded none,
  );
  passed = λ image world formed sound state fit going no_issue. (
    _,
    passed image world (facts_of image world (ports_there image formed) sound) state fit going
        no_issue,
  );
  waves = λ image world formed sound state fit grounded wave instr port value e.
      way_wave image world (facts_of image world (ports_there image formed) sound) state fit grounded wave
      instr port value e;
  place = λ image world formed sound state fit grounded stopped t fault.
      fault_place image world (facts_of image world (ports_there image formed) sound) state fit grounded
      stopped t fault;
  way = λ image world formed sound state fit once w i p v e. way_count image world
      (facts_of image world (ports_there image formed) sound) state fit once w i p v e;
  effect = λ image world formed sound p one other a b. same_effect image world
      (facts_of image world (ports_there image formed) sound) p one other a b;
}
