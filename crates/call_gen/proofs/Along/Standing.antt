-- A walk of the given graph and one of the spelled graph, at the start of a block.
use Rattle.std.proofs.Common.{ℕ, suc, ◌+◌, ◌/◌, ◌≡◌, ◌<◌, ◌≤◌, min, Bool, true, false, List, [], ◌∷◌, length}
use Rattle.std.proofs.Common.{get_or, ◌∙◌, Option, arith}
use Rattle.std.specs.List.{sum_by}
use Rattle.std.proofs.lemmas.List.Sums.{sum_by-append}
use Rattle.ws_words.specs.Outside.{Outside, ProcState}
use Rattle.cfg_core.specs.Graph.{Term, Exit, Call, Graph, no_spot, spots, spot_at, block_at, proc_at}
use Rattle.cfg_core.specs.Rules.{ExitIn, CallsEarlier}
use Rattle.cfg_core.specs.Walk.{Frame, Config, At, Over, Going, step, walk}
use Rattle.cfg_core.specs.Weights.{block_left, path}
use Rattle.live_vars.specs.Live.{ExitWrites, Live}
use Rattle.call_gen.specs.Spelled.{is_called, is_calling, moved, door, address, cell, cells_in_all, spelled}
use Rattle.call_gen.specs.Charged.{Places}
use Rattle.call_gen.proofs.Along.Visible.{Same}
use Rattle.call_gen.proofs.Along.Agreeing.{States}
use Rattle.call_gen.proofs.Spelled.Slots.{peek, Roomy}
use Rattle.call_gen.proofs.Spelled.Facts.{Given, Placed}
use Rattle.cfg_core.proofs.Spots.{each_at, numbers_at}

module _ (g : Graph) (live : List (List ℕ)) where
  abbrev pub total : ℕ
  total = cells_in_all g

  abbrev pub rows : ℕ
  rows = min 192 total

  abbrev pub size : ℕ
  size = suc (total / 192)

  -- A call that waits in block b: its procedure's cells have what is live after it.
  pub record Waits (hidden : List (List ℕ)) (f ra : ℕ) (frame : Frame) (b : ℕ) : Type 0 where
    pub there : b < length (spots g)
    pub terms : List Term
    pub exit : (block_at g b).exit ≡ Call frame.result f terms frame.back
    pub address : ra ≡ address g f b
    pub long : length frame.vars ≡ (spot_at g b).vars
    pub kept : (x : ℕ) → x < (spot_at g b).vars → Live g frame.back x → (ExitWrites (block_at g b).exit x → ⊥)
        → peek hidden (cell g (spot_at g b).home x) ≡ get_or frame.vars x 0

  -- the calls that wait, in these blocks, while procedure f has this return address
  abbrev pub Stack : List (List ℕ) → ℕ → ℕ → List Frame → List ℕ → Type 0
  Stack hidden f ra [] [] = suc f ≡ length g.procs
  Stack hidden f ra (frame ∷ frames) (b ∷ callers) = Waits hidden f ra frame b
      × Stack hidden (spot_at g b).home (peek hidden (cell g (spot_at g b).home (spot_at g b).vars)) frames
      callers
  Stack hidden f ra _ _ = ⊥

  pub record Stands (b : ℕ) (s : ProcState) (frames : List Frame) (callers : List ℕ) (t : ProcState) : Type
      0 where
    pub there : b < length (spots g)
    pub hidden : List (List ℕ)
    pub extra : ℕ
    pub states : States g rows size (spot_at g b).vars extra hidden (Live g b) s t
    pub roomy : Roomy total hidden
    pub stack : Stack hidden (spot_at g b).home extra frames callers

  -- the same outside, but for hidden cells
  pub record Alike (o p : Outside) : Type 0 where
    pub hidden : List (List ℕ)
    pub same : Same (length g.arrays) rows size hidden o p

  abbrev pub Relates : List ℕ → Config → Config → Type 0
  Relates callers (At b s frames k) (At c t others j) = (c ≡ moved g b) × (others ≡ []) × (k ≡ j)
      × Stands b s frames callers t
  Relates callers (Over o k) (Over p j) = (k ≡ j) × Alike o p
  Relates callers (Going o) (Going p) = Alike o p
  Relates callers _ _ = ⊥

  -- where the blocks of the given graph stand
  abbrev pub places : Places
  places = record { block = λ b. moved g b; door = λ f. door g f; point = λ b. suc (moved g b) }

  -- what the return points of these calls weigh
  abbrev pub owed : (ℕ → ℕ) → List ℕ → ℕ
  owed w [] = 0
  owed w (b ∷ callers) = w (suc (moved g b)) + owed w callers

  -- Some blocks later in the spelled graph. Those that it leaves weigh at most so much, together with the
  -- return points of the calls that wait then.
  pub record Reaches (w : ℕ → ℕ) (n : ℕ) (c d : Config) : Type 0 where
    pub blocks : ℕ
    pub callers : List ℕ
    pub relates : Relates callers c (walk (spelled g live) blocks d)
    pub weigh : sum_by w (path (spelled g live) blocks d) + owed w callers ≤ n

  module _ (w : ℕ → ℕ) where
    pub if_reaches : (n : ℕ) (b c : Bool) (p q : Config) (p' q' : Config) → b ≡ c → Reaches w n p p'
        → Reaches w n q q' → Reaches w n (Rattle.std.proofs.Common.cond b p q)
        (Rattle.std.proofs.Common.cond c p' q')
    if_reaches n b c p q p' q' e h i = grind arith

    pub reaches_by : (n : ℕ) (c d e : Config) → d ≡ e → Reaches w n c e → Reaches w n c d
    reaches_by n c d e same r = rw same r

    pub reaches_more : (n m : ℕ) (c d : Config) → n ≤ m → Reaches w n c d → Reaches w m c d
    reaches_more n m c d le r = grind arith

    -- one block before
    pub reaches_past : (n m : ℕ) (c d : Config) → sum_by w (block_left d (step (spelled g live) d)) + n ≤ m
        → Reaches w n c (step (spelled g live) d) → Reaches w m c d
    reaches_past n m c d le r =
        let e = sum_by-append w (block_left d (step (spelled g live) d))
        (path (spelled g live) r.blocks (step (spelled g live) d)) in
        record {
          blocks = suc r.blocks;
          callers = r.callers;
          relates = r.relates;
          weigh = omega arith;
        }

    -- a step leaves one block at most
    pub left_few : (b : ℕ) (s : ProcState) (frames : List Frame) (k : ℕ) (d : Config)
        → sum_by w (block_left (At b s frames k) d) ≤ w b
    left_few b s frames k d = grind arith

    pub reaches_later : (n : ℕ) (c : Config) (b : ℕ) (s : ProcState) (frames : List Frame) (k : ℕ)
        → Reaches w n c (step (spelled g live) (At b s frames k)) → Reaches w (w b + n) c (At b s frames k)
    reaches_later n c b s frames k r = grind (arith, reaches_past, left_few)

  module _ (G : Given g live) (F : Placed g live) where
    pub earlier_at : (b : ℕ) → CallsEarlier (spot_at g b).home (block_at g b).exit
    unfolding spot_at no_spot
    earlier_at b = grind (arith, each_at)

    pub exit_in : (b : ℕ) (x : Exit) → (block_at g b).exit ≡ x
        → ExitIn g (spot_at g b).home (spot_at g b).vars x
    exit_in b x e = grind (arith, numbers_at)

    pub callee_earlier : (b : ℕ) (r : Option ℕ) (f : ℕ) (ts : List Term) (back : ℕ)
        → (block_at g b).exit ≡ Call r f ts back → f < (spot_at g b).home
    callee_earlier b r f ts back e = rw e at (earlier_at b)

    -- the cells of procedures after this one are the same
    abbrev pub SameAbove : ℕ → List (List ℕ) → List (List ℕ) → Type 0
    SameAbove e hidden after = (f x : ℕ) → e < f → f < length g.procs → is_calling g f ≡ true
        → x ≤ (proc_at g f).vars → peek after (cell g f x) ≡ peek hidden (cell g f x)

    pub stack_kept : (e : ℕ) (hidden after : List (List ℕ)) → SameAbove e hidden after
        → (f ra : ℕ) (frames : List Frame) (callers : List ℕ) → e ≤ f → Stack hidden f ra frames callers
        → Stack after f ra frames callers
    stack_kept e hidden after same f ra (frame ∷ frames) (b ∷ callers) le h =
        let w = h.0 in
        let up : f < (spot_at g b).home = callee_earlier b frame.result f w.terms frame.back w.exit in
        let home = F.home b w.there in
        let calling = (F.called b frame.result f w.terms frame.back w.there w.exit).1 in
        let fits : (x : ℕ) → x ≤ (spot_at g b).vars → peek after (cell g (spot_at g b).home x) ≡ peek hidden
        (cell g (spot_at g b).home x) =
        λ x lx. same (spot_at g b).home x (omega arith) home.0 calling (omega arith) in (
          record {
            there = w.there;
            terms = w.terms;
            exit = w.exit;
            address = w.address;
            long = w.long;
            kept = λ x lt l never. fits x (omega arith) ∙ w.kept x lt l never;
          },
          rw (fits (spot_at g b).vars (omega arith)) (stack_kept e hidden after same (spot_at g b).home (peek
              hidden (cell g (spot_at g b).home (spot_at g b).vars)) frames callers (omega arith) h.1),
        )
    stack_kept e hidden after same f ra frames callers le h = grind arith

    -- the return address of a procedure that isn't called doesn't matter
    pub stack_any : (hidden : List (List ℕ)) (f ra rb : ℕ) (frames : List Frame) (callers : List ℕ)
        → is_called g f ≡ false → Stack hidden f ra frames callers → Stack hidden f rb frames callers
    stack_any hidden f ra rb [] [] no_call h = h
    stack_any hidden f ra rb (frame ∷ frames) (b ∷ callers) no_call h =
        let c : is_called g f ≡ true =
        (F.called b frame.result f h.0.terms frame.back h.0.there h.0.exit).0 in
        absurd (cc)
    stack_any hidden f ra rb frames callers no_call h = absurd h
