-- Small programs, lowered and walked: what the definitions give, by computing.
use Rattle.std.proofs.Common.{◌≡◌, [], ◌∷◌, refl, Some, None}
use Rattle.ws_words.specs.declared.alu.Alu.TheVariants.{Add, Mul, Lt, Le}
use Rattle.ws_words.specs.Outside.{with_input, prints, reads}
use Rattle.seq_run.specs.Resolved.{Assign, Print, Read, Do, Call, If, While, Nothing, Then, Proc}
use Rattle.seq_run.specs.Resolved.{ResolvedProgram}
use Rattle.cfg_core.specs.Graph.{Number, Var, Binary, spot_at, proc_at, entry_of}
use Rattle.cfg_core.specs.Walk.{Over, Going, walk, opening}
use Rattle.cfg_build.specs.Lowered.{lowered}

abbrev main_of : Proc → ResolvedProgram
main_of p = record { names = []; lengths = []; procs = p ∷ [] }

-- adds 1 to 10
abbrev sum : ResolvedProgram
sum = main_of (record {
  params = 0;
  locals = 2;
  result = None;
  body = Then (Do (Assign 0 (Number 1)))
      (Then (While (Binary Le (Var 0) (Number 10)) (Then (Do (Assign 1 (Binary Add (Var 1) (Var 0))))
      (Then (Do (Assign 0 (Binary Add (Var 0) (Number 1)))) Nothing)))
      (Then (Do (Print (Var 1))) Nothing));
})

pub sum_is_55 : walk (lowered sum) 23 (opening (lowered sum) (with_input []) 40)
    ≡ Over (record { cells = []; input = []; left = []; acts = prints 55 ∷ [] }) 7
unfolding spot_at proc_at entry_of
sum_is_55 = refl

pub sum_wants_33_turns : walk (lowered sum) 23 (opening (lowered sum) (with_input []) 32)
    ≡ Going (record { cells = []; input = []; left = []; acts = [] })
unfolding spot_at proc_at entry_of
sum_wants_33_turns = refl

-- doubles 5 twice and prints 10 + 20 + 5
abbrev doubles : ResolvedProgram
doubles = record {
  names = [];
  lengths = [];
  procs = record { params = 1; locals = 0; body = Nothing; result = Some (Binary Mul (Var 0) (Number 2)) }
      ∷ record {
        params = 0;
        locals = 3;
        result = None;
        body = Then (Do (Assign 2 (Number 5)))
            (Then (Call (Some 0) 0 (Var 2 ∷ []))
            (Then (Call (Some 1) 0 (Var 0 ∷ []))
            (Then (Do (Print (Binary Add (Binary Add (Var 0) (Var 1)) (Var 2)))) Nothing)));
      } ∷ [];
}

pub doubles_in_six_turns : walk (lowered doubles) 5 (opening (lowered doubles) (with_input []) 6)
    ≡ Over (record { cells = []; input = []; left = []; acts = prints 35 ∷ [] }) 0
unfolding spot_at proc_at entry_of
doubles_in_six_turns = refl

pub stops_in_the_call : walk (lowered doubles) 5 (opening (lowered doubles) (with_input []) 2)
    ≡ Going (record { cells = []; input = []; left = []; acts = [] })
unfolding spot_at proc_at entry_of
stops_in_the_call = refl

-- a loop in an arm, after which the join is printed
abbrev counts_up : ResolvedProgram
counts_up = main_of (record {
  params = 0;
  locals = 2;
  result = None;
  body = Then (Do (Read 0))
      (Then (If (Var 0)
      (Then (While (Binary Lt (Var 1) (Var 0)) (Then (Do (Assign 1 (Binary Add (Var 1) (Number 1))))
      Nothing)) Nothing) Nothing)
      (Then (Do (Print (Var 1))) Nothing));
})

pub counts_to_3 : walk (lowered counts_up) 12 (opening (lowered counts_up) (with_input (3 ∷ [])) 10)
    ≡ Over (record { cells = []; input = []; left = []; acts = reads ∷ prints 3 ∷ [] }) 0
unfolding spot_at proc_at entry_of
counts_to_3 = refl

pub counts_to_0 : walk (lowered counts_up) 3 (opening (lowered counts_up) (with_input (0 ∷ [])) 3)
    ≡ Over (record { cells = []; input = []; left = []; acts = reads ∷ prints 0 ∷ [] }) 0
unfolding spot_at proc_at entry_of
counts_to_0 = refl
