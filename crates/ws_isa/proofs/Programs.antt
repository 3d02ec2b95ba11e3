-- The code's table of an image's blocks.
use Rattle.std.proofs.Common.{ℕ, suc, ◌+◌, ◌-◌, ◌≡◌, ◌<◌, ◌≤◌, ◌&&◌, ◌==◌, Bool, true, false, List}
use Rattle.std.proofs.Common.{◌∷◌, length, map, slice_index, slice_index_or, refl, sym, ap, ◌∙◌, subst, arith}
use Rattle.std.proofs.lemmas.Bool.{and_parts}
use Rattle.std.proofs.lemmas.Bool.Decides.{nat_tests}
use Rattle.std.proofs.lemmas.List.{length-map}
use Rattle.std.proofs.lemmas.Grind.{get_or_default_zero}
use Rattle.ws_words.specs.Outside.{World}
use Rattle.ws_isa.specs.declared.image.Block.{Block}
use Rattle.ws_isa.specs.declared.instr.Instr.{Instr}
use Rattle.ws_isa.specs.Image as plain
use Rattle.ws_isa.specs.Image.{Exit, no_block, no_instr, instr_at, flat, first_number, block_at, pad_of}
use Rattle.ws_isa.specs.Image.{start_dests, stops, is_stop, leave_to, target, is_first, IsBlock}
use Rattle.ws_isa.specs.View as view
use Rattle.ws_isa.specs.Walk.{choice_of}
use Rattle.ws_isa.specs.Open.{Walkable}
use Rattle.ws_isa.specs.declared.program.BlockTable.{BlockTable}
use Rattle.ws_isa.specs.declared.walker.Walker.{Walker}
use Rattle.ws_isa.specs.declared.walker.Edge.{Edge}
use Rattle.ws_isa.specs.Shows.{image_of, block_in, crossed, EdgeIs, At, AtStart, AtEnd, Final}
use Rattle.ws_isa.proofs.Blocks.{first_in, number_within, number_next, block_is, instr_is}
use Rattle.ws_isa.proofs.Leaving.{left_at}
use Rattle.ws_isa.proofs.Opening.{dead_final}
use Rattle.ws_words.specs.Items.{nth, or_else}

module _ (p : BlockTable) where
  pub blocks_long : length (image_of p).blocks ≡ length p.blocks.now
  blocks_long = length-map p.blocks.now view.block

  -- a block of the code is one of the image
  pub inside : (n : ℕ) → n < length p.blocks.now → n < length (image_of p).blocks
  inside n l = let e : length (image_of p).blocks ≡ length p.blocks.now = blocks_long in omega arith

  -- the code's number of a block's first instruction
  pub first_found : (n x : ℕ) → n < length p.blocks.now → x ≡ slice_index_or p.firsts.items n x
      → x ≡ first_number (image_of p) (suc n)
  first_found n x l e =
      let long : length p.firsts.items ≡ suc (length p.blocks.now) = p.listed.firsts_length in
      e ∙ get_or_default_zero p.firsts.items n x (omega arith) ∙ p.listed.firsts_are n (omega arith)
      ∙ first_in (image_of p) n

  -- a block's instructions are within the table
  pub first_within : (n x : ℕ) → n < length p.blocks.now → x ≡ first_number (image_of p) (suc n)
      → x + length (block_in p n).instrs ≤ p.total
  first_within n x l e =
      let w : first_number (image_of p) (suc n) + length (or_else (nth (image_of p).blocks n) no_block).instrs
      ≤ suc (length (flat (image_of p).blocks)) = number_within (image_of p) n (inside n l) in
      let t : p.total ≡ suc (length (flat (image_of p).blocks)) = p.listed.total_is in
      omega arith

  -- a block by its place is a block
  pub is_block : (n : ℕ) → n < length p.blocks.now → IsBlock (image_of p) (suc n)
  is_block n l = let e : n < length (image_of p).blocks = inside n l in (omega arith, e)

  module _ (ok : Walkable (image_of p)) (n : ℕ) (l : n < length p.blocks.now) (exit : Exit)
      (ex : exit ≡ (block_in p n).exit) where
    exit_is : exit ≡ (block_at (image_of p) (suc n)).exit
    exit_is = ex ∙ ap (λ (b : plain.Block). b.exit) (sym (block_is (image_of p) n))

    -- whether an exit stops
    pub stops_is : (b : Bool) → is_stop exit ≡ b → stops (image_of p) (suc n) ≡ b
    unfolding stops
    stops_is b e = ap is_stop (sym exit_is) ∙ e

    -- where an exit leads
    pub target_is : (r : ℕ) → leave_to exit r ≡ target (image_of p) (suc n) r
    unfolding target
    target_is r = ap (λ (x : Exit). leave_to x r) exit_is

    module _ (results : List ℕ) (e : Edge) (at : EdgeIs exit results e) where
      to_block : IsBlock (image_of p) (target (image_of p) (suc n) e.choice)
      to_block = (ok.shape.blocks (suc n) (is_block n l)).edges.there e.choice (stops_is false at.goes)

      -- the code's next block is the edge's target
      pub next_is : suc e.next ≡ target (image_of p) (suc n) e.choice
      next_is =
          let a : e.next ≡ target (image_of p) (suc n) e.choice - 1 = at.next
          ∙ ap (λ (x : ℕ). x - 1) (target_is e.choice) in
          let b : 1 ≤ target (image_of p) (suc n) e.choice = to_block.0 in omega arith

      -- the next block is there
      pub next_inside : e.next < length p.blocks.now
      next_inside =
          let a : suc e.next ≡ target (image_of p) (suc n) e.choice = next_is in
          let b : target (image_of p) (suc n) e.choice ≤ length (image_of p).blocks = to_block.1 in
          let c : length (image_of p).blocks ≡ length p.blocks.now = blocks_long in omega arith

      -- inside a wave it is a later one
      pub next_ahead : is_first (image_of p) (suc e.next) ≡ false → n < e.next
      next_ahead f =
          let a : suc e.next ≡ target (image_of p) (suc n) e.choice = next_is in
          let b : suc n < target (image_of p) (suc n) e.choice =
          ((ok.shape.blocks (suc n) (is_block n l)).edges.later e.choice (stops_is false at.goes)
          (ap (is_first (image_of p)) (sym a) ∙ f)).0 in
          omega arith

      -- after an edge the code stands at the start of the next block
      pub next_at : (world : World) (t : ℕ) (old new : Walker) → results ≡ old.table.results
          → AtEnd (image_of p) world t (suc n) old →
          new.table.operands ≡ crossed (block_in p e.next).pads e.choice (block_in p n).instrs
          (first_number (image_of p) (suc n)) old.table.results old.table.operands →
          new.table.results ≡ old.table.results → new.memory ≡ old.memory → new.fired ≡ old.fired
          → new.fault ≡ old.fault →
          AtStart (image_of p) world (suc t) (suc e.next) new
      next_at world t old new er h eo es em ef eg =
          let choice : e.choice ≡ choice_of (block_at (image_of p) (suc n)).exit
          (λ (j : ℕ). slice_index old.table.results j) =
          at.choice ∙ ap (λ (x : Exit). choice_of x (λ (j : ℕ). slice_index results j)) exit_is
          ∙ ap (λ (rs : List ℕ). choice_of (block_at (image_of p) (suc n)).exit
          (λ (j : ℕ). slice_index rs j)) er in
          let pads : (block_in p e.next) ≡ block_at (image_of p) (target (image_of p) (suc n) e.choice) =
          sym (block_is (image_of p) e.next) ∙ ap (block_at (image_of p)) next_is in
          let instrs : block_in p n ≡ block_at (image_of p) (suc n) = sym (block_is (image_of p) n) in
          let ops = eo
          ∙ ap (λ (b : plain.Block). crossed b.pads e.choice (block_in p n).instrs
          (first_number (image_of p) (suc n)) old.table.results old.table.operands) pads
          ∙ ap (λ (b : plain.Block).
          crossed (block_at (image_of p) (target (image_of p) (suc n) e.choice)).pads e.choice b.instrs
          (first_number (image_of p) (suc n)) old.table.results old.table.operands) instrs in
          let done = left_at (image_of p) world ok t (suc n) e.choice old new h (stops_is false at.goes)
          choice (record { operands = ops; results = es; memory = em; fired = ef; fault = eg }) in
          subst (λ (b : ℕ). AtStart (image_of p) world (suc t) b new) (sym next_is) done

  -- the instructions of a block, one after the other
  instr_found : (xs : List Instr) (i : ℕ) (x : Instr) (d : plain.Instr) → i < length xs
      → x ≡ slice_index_or xs i x → or_else (nth (map view.instr xs) i) d ≡ view.instr x
  instr_found (y ∷ xs) (suc i) x d l e = instr_found xs i x d (omega arith) e
  instr_found xs i x d l e = grind arith

  module _ (n : ℕ) (l : n < length p.blocks.now) (blk : Block) (eb : view.block blk ≡ block_in p n)
      (xs : List Instr) (ex : xs ≡ blk.instrs.items) (first : ℕ)
      (ef : first ≡ first_number (image_of p) (suc n)) where
    block_length : length (block_in p n).instrs ≡ length xs
    block_length = grind (arith, length-map, blk.instrs.items)

    next_number : first_number (image_of p) (suc (suc n)) ≡ first_number (image_of p) (suc n) + length xs
    next_number = number_next (image_of p) n (inside n l)
        ∙ ap (λ (x : ℕ). first_number (image_of p) (suc n) + x) block_length

    -- an instruction of a block by its place is within the block
    pub number_below : (i : ℕ) → i < length xs → first_number (image_of p) (suc n) + i < first_number
        (image_of p) (suc (suc n))
    number_below i h = grind (arith, next_number)

    -- after its last instruction a block is at its end
    pub number_end : (i : ℕ) → i ≡ length xs → first_number (image_of p) (suc n) + i ≡ first_number
        (image_of p) (suc (suc n))
    number_end i h = grind (arith, next_number)

    instr_here : (i : ℕ) (x : Instr) → i < length xs → x ≡ slice_index_or xs i x
        → instr_at (image_of p) (first_number (image_of p) (suc n) + i) ≡ view.instr x
    instr_here i x h e =
        let len : i < length (block_in p n).instrs =
        (let z : length (block_in p n).instrs ≡ length xs = block_length in omega arith) in
        instr_is (image_of p) n i (first_number (image_of p) (suc n) + i) (inside n l) len refl
        ∙ ap (λ (b : plain.Block). or_else (nth b.instrs i) no_instr) (sym eb)
        ∙ ap (λ (ys : List Instr). or_else (nth (map view.instr ys) i) no_instr) (sym ex)
        ∙ instr_found xs i x no_instr h e

    -- one instruction more has fired
    pub fire_more : (i j : ℕ) (x : Instr) (old new : Walker) → i < length xs → x ≡ slice_index_or xs i x
        → j ≡ suc i →
        ((world : World) (t b : ℕ) → At (image_of p) world t b (first + i) old
        → first + i < first_number (image_of p) (suc b) → instr_at (image_of p) (first + i) ≡ view.instr x
        → At (image_of p) world (suc t) b (suc (first + i)) new) →
        (world : World) (t : ℕ) → At (image_of p) world t (suc n) (first_number (image_of p) (suc n) + i) old
        → At (image_of p) world (suc t) (suc n) (first_number (image_of p) (suc n) + j) new
    fire_more i j x old new h e ej f world t at =
        let k : first + i ≡ first_number (image_of p) (suc n) + i = ap (λ (z : ℕ). z + i) ef in
        let below : first_number (image_of p) (suc n) + i < first_number (image_of p) (suc (suc n)) =
        number_below i h in
        let a : At (image_of p) world t (suc n) (first + i) old =
        subst (λ (z : ℕ). At (image_of p) world t (suc n) z old) (sym k) at in
        let r : At (image_of p) world (suc t) (suc n) (suc (first + i)) new =
        f world t (suc n) a (omega arith) (ap (instr_at (image_of p)) k ∙ instr_here i x h e) in
        let m : suc (first + i) ≡ first_number (image_of p) (suc n) + j = omega arith in
        subst (λ (z : ℕ). At (image_of p) world (suc t) (suc n) z new) m r

  -- an empty first block of a wave
  pub dead_at : Walkable (image_of p) → (n : ℕ) → n < length p.blocks.now → (b : Bool)
      → b ≡ ((length (block_in p n).instrs == 0) && is_first (image_of p) (suc n)) → b ≡ true →
      (world : World) (firings t : ℕ) (w : Walker) → AtStart (image_of p) world t (suc n) w
      → Final (image_of p) world firings true w
  dead_at ok n l b e y world firings t w at =
      let both = and_parts (length (block_in p n).instrs == 0) (is_first (image_of p) (suc n)) (sym e ∙ y) in
      let z : length (block_in p n).instrs ≡ 0 =
      (let q : (length (block_in p n).instrs == 0) ≡ true = both.0 in grind (arith, nat_tests)) in
      let f : first_number (image_of p) (suc (suc n)) ≡ first_number (image_of p) (suc n) + length
      (block_in p n).instrs = number_next (image_of p) n (inside n l) in
      dead_final (image_of p) world ok firings t (suc n) w at both.1
      (let g : first_number (image_of p) (suc (suc n)) ≡ first_number (image_of p) (suc n) =
      omega arith in g)

  -- there is a block
  pub some_block : Walkable (image_of p) → 0 < length p.blocks.now
  some_block ok = grind (arith, blocks_long)

  -- pad 0 of block 1 is where the start pulse goes
  pub start_is : (b : Block) → view.block b ≡ block_in p 0 → pad_of (map view.pad b.pads.items) 0
      ≡ start_dests (image_of p)
  unfolding start_dests
  start_is b e = ap (λ (x : plain.Block). pad_of x.pads 0) (e ∙ sym (block_is (image_of p) 0))
