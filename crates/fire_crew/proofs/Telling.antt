-- What a run answers, in the words of the walk alone.
use Rattle.std.proofs.Common.{ℕ, ◌≡◌, List, Option, sym, arith}
use Rattle.ws_words.specs.Outside.{World}
use Rattle.ws_isa.specs.Image.{Image}
use Rattle.df_core.specs.Core.{Key}
use Rattle.port_set.specs.Ports.{Told}
use Rattle.store_buf.specs.Outdoors.{RoseAt, RoseSince, began_of}
use Rattle.store_buf.specs.declared.finish.RunFinish.{RunFinish}
use Rattle.store_buf.specs.declared.finish.RunFinish.TheVariants.{Done, Budget, Fault, Port, NoMemory}
use Rattle.store_buf.specs.Answer.{RunTells}
use Rattle.fire_crew.specs.Finishes.{EndsSo, FinishSo}

module _ (image : Image) (world : World) (budget : ℕ) (listed : List Key) (handed back : List (Option Told))
    (since : (port : ℕ) → RoseSince (began_of handed) port back → RoseAt port handed back) where
  finish_tells : (finish : RunFinish) → FinishSo image world (began_of handed) budget listed back finish →
      RunTells image world handed budget finish back
  finish_tells (Done printed arrays fired) f = grind arith
  finish_tells (Budget printed fired) f = grind arith
  finish_tells (Fault array printed arrays) f =
      let run = f.1 in
      record {
        time = run.time;
        fault = run.fault;
        array_is = run.array_is;
        printed_are = sym run.left.printed_are;
        cells_are = sym run.left.cells_are;
        ports = run.left.slots_are;
      }
  finish_tells (Port port printed) f = grind arith
  finish_tells NoMemory f = grind arith

  stays_tells : (finish : RunFinish) → finish ≡ NoMemory → back ≡ handed →
      RunTells image world handed budget finish back
  stays_tells finish is same = grind arith

  pub tells : (finish : RunFinish) → EndsSo image world (began_of handed) budget listed handed back finish →
      RunTells image world handed budget finish back
  tells v0 v1 = grind (arith, stays_tells, finish_tells)
