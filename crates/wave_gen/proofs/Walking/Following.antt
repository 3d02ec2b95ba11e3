-- A draft that is drawn from a graph goes where the graph's walk goes.
use Rattle.std.proofs.Common.{ℕ, ◌≡◌, ◌≤◌, true, false, cond, eqb, List, length, refl, ap, ◌∙◌, arith}
use Rattle.std.proofs.lemmas.Bool.{cond-true, cond-false}
use Rattle.ws_isa.specs.Image as image
use Rattle.ws_isa.specs.Image.{Image, Array, stops, target}
use Rattle.wave_gen.specs.Waits.{NameState, Code, RunPlace, names_at, pass, chosen, chosen_of}
use Rattle.wave_gen.specs.Plans.{HowLeft, Onto, Either, Lands, Halts, Plan, plan_at, draft_of}
use Rattle.wave_gen.specs.Plans.{code_of, exit_of, source_of, filled}
use Rattle.wave_gen.proofs.Planning.Planned.{PlansAre}
use Rattle.wave_gen.proofs.OfItems.Runs.{run_items, run_choice}
use Rattle.wave_gen.proofs.OfItems.Running.{Chained, block_runs}
use Rattle.wave_gen.proofs.Drawing.Blocks.{made_is}
use Rattle.wave_gen.proofs.Drawing.Edges.{target_is, next_is}
use Rattle.wave_gen.proofs.Drawing.Waiting.{stops_is}

module _ (arrays : List Array) (width : ℕ) (ps : List Plan) (Live : ℕ → ℕ → Type 0)
    (plans : PlansAre ps width Live) where
  abbrev I : Image
  I = draft_of arrays width ps

  abbrev C : Code
  C = code_of width ps

  abbrev pub Is : ℕ → Type 0
  Is b = (1 ≤ b) × (b ≤ length ps)

  -- what a block leaves
  module _ (p : RunPlace) (n : ℕ) (h : Is n) (b : p.block ≡ n) where
    abbrev start : NameState
    start = record { env = p.env; out = p.out }

    abbrev pub ending : NameState
    ending = run_choice (plan_at ps n).test (plan_at ps n).exit (run_items (plan_at ps n).items start)

    pub left : Chained (plan_at ps n).test ending (names_at C p)
    unfolding names_at code_of
    left = rw b (grind (arith, made_is, plans.each, block_runs))

    -- where it stops
    pub stopped : (plan_at ps n).exit ≡ Halts → ((pass I C p).over ≡ true) × ((pass I C p).out ≡ ending.out)
    unfolding pass
    stopped q =
        let s : stops I p.block ≡ true = ap (stops I) b ∙ stops_is arrays width ps Live plans n h
        ∙ ap (λ (l : HowLeft). image.is_stop (exit_of (source_of width ps n) l)) q in (
          grind (arith, cond-true),
          ap (λ (z : RunPlace). z.out) (cond-true (stops I p.block) _ _ s) ∙ left.out,
        )

    -- where it goes on
    pub record Onward (r : ℕ) : Type 0 where
      pub over : (pass I C p).over ≡ false
      pub block : (pass I C p).block ≡ target I n r
      pub env : (x : ℕ) → (pass I C p).env x ≡ C.next n r (names_at C p).env x
      pub out : (pass I C p).out ≡ ending.out

    pub goes_on : stops I n ≡ false → Onward (chosen I C n (names_at C p).env)
    unfolding pass
    goes_on t = grind (arith, cond-false, left)

    going : (e : HowLeft) → (plan_at ps n).exit ≡ e → image.is_stop (exit_of (source_of width ps n) e) ≡ false
        → stops I n ≡ false
    going e q f = stops_is arrays width ps Live plans n h
        ∙ ap (λ (l : HowLeft). image.is_stop (exit_of (source_of width ps n) l)) q ∙ f

    abbrev choice : ℕ
    choice = chosen I C n (names_at C p).env

    choice_is : (e : HowLeft) → (plan_at ps n).exit ≡ e → chosen I C n (names_at C p).env ≡ chosen_of
        (exit_of (source_of width ps n) e) ((names_at C p).env (plan_at ps n).test)
    unfolding chosen code_of
    choice_is e q = ap (λ (x : image.Exit). chosen_of x ((names_at C p).env (plan_at ps n).test))
        (Rattle.wave_gen.proofs.Drawing.Edges.exit_is arrays width ps Live plans n h
        ∙ ap (exit_of (source_of width ps n)) q)

    pub record To (c : ℕ) (env : ℕ → ℕ) : Type 0 where
      pub over : (pass I C p).over ≡ false
      pub block : (pass I C p).block ≡ c
      pub env_is : (x : ℕ) → (pass I C p).env x ≡ env x
      pub out : (pass I C p).out ≡ ending.out

    pub onto : (c : ℕ) → (plan_at ps n).exit ≡ Onto c → To c (names_at C p).env
    onto c q = let g = goes_on (going (Onto c) q refl) in record {
      over = g.over;
      block = g.block ∙ target_is arrays width ps Live plans n h (Onto c) q choice;
      env_is = λ x. g.env x ∙ next_is arrays width ps Live plans n h (Onto c) q choice x (names_at C p).env;
      out = g.out;
    }

    pub either : (op : _) (from : List ℕ) (c d : ℕ) → (plan_at ps n).exit ≡ Either op from c d
        → To (cond (eqb (ending.env (plan_at ps n).test) 0) d c) (names_at C p).env
    either op from c d q = let g = goes_on (going (Either op from c d) q refl) in record {
      over = g.over;
      block = g.block ∙ target_is arrays width ps Live plans n h (Either op from c d) q choice
          ∙ ap (λ (r : ℕ). cond (eqb r 0) d c) (choice_is (Either op from c d) q
          ∙ left.env (plan_at ps n).test (omega arith));
      env_is = λ x. g.env x ∙ next_is arrays width ps Live plans n h (Either op from c d) q choice x
          (names_at C p).env;
      out = g.out;
    }

    pub lands : (op : _) (from values ls : List ℕ) → (plan_at ps n).exit ≡ Lands op from values ls →
        (let c = image.landing_of ls (ending.env (plan_at ps n).test) in
        To c (filled (plan_at ps c).pads values (names_at C p).env))
    lands op from values ls q =
        let g = goes_on (going (Lands op from values ls) q refl) in
        let r : chosen I C n (names_at C p).env ≡ ending.env (plan_at ps n).test =
        choice_is (Lands op from values ls) q ∙ left.env (plan_at ps n).test (omega arith) in
        record {
          over = g.over;
          block = g.block ∙ target_is arrays width ps Live plans n h (Lands op from values ls) q choice
              ∙ ap (image.landing_of ls) r;
          env_is = λ x. g.env x ∙ next_is arrays width ps Live plans n h (Lands op from values ls) q choice x
              (names_at C p).env ∙ ap (λ (m : ℕ). filled (plan_at ps (image.landing_of ls m)).pads values
              (names_at C p).env x) r;
          out = g.out;
        }
