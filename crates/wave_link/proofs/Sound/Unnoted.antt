-- The rules on shape and slots read no notes.
use Rattle.std.proofs.Common.{arith, ℕ, zero, suc, ◌≡◌, ◌<◌, List, length, refl, sym, ap, ap₂, ◌∙◌, subst}
use Rattle.ws_isa.specs.declared.instr.Dest.{Dest}
use Rattle.ws_isa.specs.Image.{Exit, Pad, Image, instr_at, block_at, block_of, first_number, size_of, ports}
use Rattle.ws_isa.specs.Image.{ports_of, is_memory, is_memory_op, is_advance, is_advance_op, is_giving}
use Rattle.ws_isa.specs.Image.{is_giving_op, stops, is_stop, target, leave_to, is_first, pad_of, now_of}
use Rattle.ws_isa.specs.Image.{now_dests, edge_dests, start_dests, IsIn, IsBlock}
use Rattle.ws_isa.specs.Formed.{WavesInOrder}
use Rattle.ws_isa.specs.Sound.{OpenSlots, none_open, all_opened, closed, edge_all, opens_at, Opens}
use Rattle.ws_isa.specs.Sound.{begin, turn, edge, AdvancesOpen, TurnSlots, EndSlots, EdgeInto, SlotRules}
use Rattle.ws_isa.specs.Sound.{IsAhead, BringsResult, direct, through, BlockShape, ShapeRules}
use Rattle.ws_isa.proofs.Along.{path_end}
use Rattle.wave_link.proofs.Grown.GrownTriggers.{op_case}
use Rattle.ws_words.specs.Items.{nth}

-- the same image but for notes
pub record SameShape (image new : Image) : Type 0 where
  pub numbers : (b : ℕ) → first_number new b ≡ first_number image b
  pub count : length new.blocks ≡ length image.blocks
  pub holders : (k : ℕ) → block_of new k ≡ block_of image k
  pub waves : (b : ℕ) → (block_at new b).wave ≡ (block_at image b).wave
  pub pads : (b : ℕ) → (block_at new b).pads ≡ (block_at image b).pads
  pub exits : (b : ℕ) → (block_at new b).exit ≡ (block_at image b).exit
  pub ops : (k : ℕ) → (instr_at new k).op ≡ (instr_at image k).op
  pub dests : (k : ℕ) → (instr_at new k).dests ≡ (instr_at image k).dests
  pub others : (k : ℕ) → (instr_at new k).others ≡ (instr_at image k).others
  pub in_order : WavesInOrder image.blocks → WavesInOrder new.blocks

module _ (image new : Image) (same : SameShape image new) where
  pub block_back : (b : ℕ) → IsBlock new b → IsBlock image b
  block_back b h = (h.0, rw same.count at h.1)

  pub block_on : (b : ℕ) → IsBlock image b → IsBlock new b
  block_on b h = (h.0, rw same.count h.1)

  pub in_back : (b k : ℕ) → IsIn new b k → IsIn image b k
  in_back b k i = grind (arith, same.numbers)

  pub in_on : (b k : ℕ) → IsIn image b k → IsIn new b k
  in_on b k i = grind (arith, same.numbers)

  pub ports_same : (k : ℕ) → ports new k ≡ ports image k
  unfolding ports
  ports_same k = ap ports_of (same.ops k)

  pub advance_same : (k : ℕ) → is_advance new k ≡ is_advance image k
  unfolding is_advance
  advance_same k = ap is_advance_op (same.ops k)

  pub memory_same : (k : ℕ) → is_memory new k ≡ is_memory image k
  unfolding is_memory
  memory_same k = ap is_memory_op (same.ops k)

  giving_same : (k : ℕ) → is_giving new k ≡ is_giving image k
  unfolding is_giving
  giving_same k = ap is_giving_op (same.ops k)

  pub stops_same : (b : ℕ) → stops new b ≡ stops image b
  unfolding stops
  stops_same b = ap is_stop (same.exits b)

  pub target_same : (b r : ℕ) → target new b r ≡ target image b r
  unfolding target
  target_same b r = ap (λ (x : Exit). leave_to x r) (same.exits b)

  pub first_same : (b : ℕ) → is_first new b ≡ is_first image b
  unfolding is_first
  first_same b = grind (arith, same.waves)

  pub now_same : (k : ℕ) → now_dests new k ≡ now_dests image k
  unfolding now_dests
  now_same k = ap₂ now_of (same.ops k) (same.dests k)

  pub start_same : start_dests new ≡ start_dests image
  unfolding start_dests
  start_same = ap (λ (ps : List Pad). pad_of ps 0) (same.pads 1)

  pub edge_same : (b r k : ℕ) → edge_dests new b r k ≡ edge_dests image b r k
  unfolding edge_dests
  edge_same b r k = grind (arith, same.ops, op_case, same.others, same.dests, target_same, same.pads)

  all_same : (b r k n : ℕ) → edge_all new b r k n ≡ edge_all image b r k n
  all_same b r k zero = refl
  all_same b r k (suc n) = grind (arith, edge_same, all_same b r (suc k) n)

  opens_same : (b r : ℕ) → opens_at new b r ≡ opens_at image b r
  unfolding opens_at size_of
  opens_same b r = grind (arith, all_same, same.numbers)

  moved : (b c k l : ℕ) (o p : OpenSlots) → b ≡ c → k ≡ l → o ≡ p → Opens image b k o → Opens image c l p
  moved b c k l o p e f g h = grind arith

  -- a path of the one is a path of the other
  back : (b k : ℕ) (o : OpenSlots) → Opens new b k o → Opens image b k o
  back b k o begin = moved 1 1 (first_number image 1) (first_number new 1)
      (all_opened (start_dests image) none_open) (all_opened (start_dests new) none_open) refl
      (sym (same.numbers 1)) (grind (arith, start_same)) begin
  back b k o (turn {b = c} {k = l} {o = p} path w) =
      moved c c (suc l) (suc l) (all_opened (now_dests image l) (closed l p))
      (all_opened (now_dests new l) (closed l p)) refl refl
      (grind (arith, now_same))
      (turn (back c l p path) (subst (λ (n : ℕ). l < n) (same.numbers (suc c)) w))
  back b k o (edge {b = c} {k = l} {o = p} path e s r) =
      moved (target image c r) (target new c r) (first_number image (target image c r))
      (first_number new (target new c r)) (all_opened (opens_at image c r) p)
      (all_opened (opens_at new c r) p)
      (sym (target_same c r)) (grind (arith, target_same, same.numbers)) (grind (arith, opens_same))
      (edge (back c l p path) (e ∙ same.numbers (suc c)) (sym (stops_same c) ∙ s) r)

  advances_on : (b : ℕ) (o : OpenSlots) → AdvancesOpen image b o → AdvancesOpen new b o
  advances_on b o a j q = grind (arith, in_on, advance_same, in_back)

  path_back : (b : ℕ) (o : OpenSlots) → Opens new b (first_number new (suc b)) o
      → Opens image b (first_number image (suc b)) o
  path_back b o path = path_end (back b (first_number new (suc b)) o path) (same.numbers (suc b))

  -- an edge of the one is an edge of the other
  edge_back : (c b : ℕ) (o : OpenSlots) → EdgeInto new c b o → EdgeInto image c b o
  edge_back c b o e = grind (arith, path_back, e.before, stops_same, target_same, opens_same)

  module _ (rules : SlotRules image) where
    turn_on : (b k : ℕ) (o : OpenSlots) → Opens new b k o → k < first_number new (suc b) → TurnSlots new k o
    turn_on b k o path w = grind (arith, rules.turns, back, same.numbers, ports_same, now_same)

    end_on : (b : ℕ) (o : OpenSlots) → Opens new b (first_number new (suc b)) o → EndSlots new b o
    end_on b o path = grind (arith, rules.ends, path_back, opens_same, stops_same)

    pub slots_on : SlotRules new
    slots_on = record {
      start = grind (arith, start_same);
      begins = advances_on 1 (all_opened (start_dests new) none_open)
          (grind (arith, start_same));
      turns = turn_on;
      ends = end_on;
      crossing =
          λ c b o e f. advances_on b o (rules.crossing c b o (edge_back c b o e) (sym (first_same b) ∙ f));
      pending = λ c d b o p e f i j q. rules.pending c d b o p (edge_back c b o e) (edge_back d b p f)
          (sym (first_same b) ∙ i) j q;
    }

  carried : (b s k q : ℕ) → BringsResult image b s k q → BringsResult new b s k q
  carried b s k q (direct place d e f g) = direct place d (grind (arith, now_same)) f g
  carried b s k q (through place d e f inside merge rest) =
      through place d (ap (λ (ds : List Dest). nth ds place) (now_same s) ∙ e) f (in_on b d.instr inside)
      (same.ops d.instr ∙ merge) (carried b d.instr k q rest)

  ahead_on : (b k j : ℕ) → IsAhead image b k j → IsAhead new b k j
  ahead_on b k j a = grind (arith, advance_same, same.holders, same.waves)

  module _ (b : ℕ) (shape : BlockShape image b) where
    block_shape : BlockShape new b
    block_shape = record {
      opening = λ e. rw (same.pads b) (shape.opening e);
      edges = grind (arith, target_same, block_on, stops_same, first_same);
      front = grind (arith, first_same, in_back, advance_same);
      exit = grind (arith, in_on, giving_same);
      hang = record {
        steers = λ k i e. (grind (arith, in_back, carried));
        sends = λ k p i e. (let x = shape.hang.sends k p (in_back b k i) (sym (same.ops k) ∙ e) in
            (x.0, x.1, same.exits b ∙ x.2, carried b x.0 k 0 x.3));
        landing_pad = grind (arith, target_same, in_back);
        landing_first = grind (arith, target_same, first_same);
      };
      halt = grind (arith, stops_same, in_back, in_on, memory_same);
      dests = grind (arith, ahead_on, in_back, in_on, advance_same);
    }

  pub shape_on : ShapeRules image → ShapeRules new
  shape_on shape = record {
    has_block = block_on 1 shape.has_block;
    waves = same.in_order shape.waves;
    blocks = λ b h. block_shape b (shape.blocks b (block_back b h));
  }
