-- The tails of a block stand at its end.
use Rattle.std.proofs.Common.{ℕ, zero, suc, ◌+◌, ◌-◌, ◌≡◌, ◌<◌, ◌≤◌, ◌⊎◌, Bool, true, false, cond, List, []}
use Rattle.std.proofs.Common.{◌∷◌, ◌++◌, length, Some, refl, sym, ap, ◌∙◌, subst, inl, inr, arith}
use Rattle.std.proofs.lemmas.Bool.{cases_lt, both_ways}
use Rattle.ws_isa.specs.declared.instr.Op.{Op}
use Rattle.ws_isa.specs.declared.instr.Op.TheVariants.{Merge, Halt, Advance, Steer, Send}
use Rattle.ws_isa.specs.declared.instr.Dest.{Dest}
use Rattle.ws_isa.specs.Image.{Image, Instr, Array, instr_at, now_of, first_number, IsIn}
use Rattle.wave_gen.specs.Wire.{WiredInstr, Wants, Made, emit, Item, Make, Act, Same}
use Rattle.wave_gen.specs.Plans.{merges, HowLeft, Onto, Either, Lands, Halts, Plan, pulse, Tail, TailAt, hang}
use Rattle.wave_gen.specs.Plans.{tails_of, end_wants, behind_source, exit_made, body_made, renew, advances}
use Rattle.wave_gen.specs.Plans.{plan_at, made_at, starts_at, begins, instr_of, draft_of}
use Rattle.wave_gen.proofs.Planning.Planned.{is_act_op, ItemsAre, SourceIs, PlanIs}
use Rattle.wave_gen.proofs.OfItems.Keeping.{hang_count}
use Rattle.wave_gen.proofs.OfItems.Lines.{line_at, Items, More, then_more, same_more, emit_more, rest_more}
use Rattle.wave_gen.proofs.OfItems.Lines.{make_more, wire_more, renew_more, advances_more, selected_more}
use Rattle.wave_gen.proofs.OfItems.Lines.{hang_nth}
use Rattle.wave_gen.proofs.Drawing.Blocks.{begins_next, made_is}
use Rattle.wave_gen.proofs.Drawing.Drafts.{LineOf, line_in}
use Rattle.wave_gen.proofs.Drawing.Number.{number_is, instr_is}
use Rattle.ws_isa.proofs.Blocks.{nth_append_right}
use Rattle.ws_words.specs.Items.{nth}
use Rattle.ws_words.proofs.Places.{nth_short, nth_append_left}

abbrev pub is_tail_op : Op → Bool
is_tail_op Steer = true
is_tail_op (Send p) = true
is_tail_op _ = false

abbrev pub NoTail : Op → Type 0
NoTail op = is_tail_op op ≡ false

sends_no_tail : (op : Op) → ((ds : List Dest) → now_of op ds ≡ ds) → NoTail op
sends_no_tail Steer h = absurd (let e : [] ≡ record { instr = 0; port = 0 } ∷ [] =
    h (record { instr = 0; port = 0 } ∷ []) in cc)
sends_no_tail (Send p) h =
    absurd (let e : [] ≡ record { instr = 0; port = 0 } ∷ [] = h (record { instr = 0; port = 0 } ∷ []) in cc)
sends_no_tail _ h = refl

act_no_tail : (op : Op) → is_act_op op ≡ true → NoTail op
act_no_tail op e = grind (arith, both_ways)

items_no_tail : (is : List Item) → ItemsAre is → Items NoTail is
items_no_tail [] h = tt
items_no_tail (Make x op from ∷ is) h = (sends_no_tail op h.0.0.0, items_no_tail is h.1)
items_no_tail (Act op from ∷ is) h = (act_no_tail op h.0.1, items_no_tail is h.1)
items_no_tail (Same x y ∷ is) h = items_no_tail is h.1

module _ (arrays : List Array) (width : ℕ) (ps : List Plan) (Live : ℕ → ℕ → Type 0)
    (plans : (b : ℕ) → (1 ≤ b) × (b ≤ length ps) → PlanIs ps width Live b) (b : ℕ)
    (h : (1 ≤ b) × (b ≤ length ps)) where
  abbrev I : Image
  I = draft_of arrays width ps

  abbrev F : ℕ → ℕ
  F = begins width ps

  abbrev S : ℕ → Wants
  S = starts_at width ps

  abbrev hung_made : Made
  hung_made = hang b 6 (plan_at ps b).test (tails_of width S (plan_at ps b).exit)
      (end_wants width S (plan_at ps b).exit)

  exit_more : (e : HowLeft) → SourceIs e → More NoTail refl (behind_source width S b (plan_at ps b))
      (exit_made width S b (plan_at ps b) e)
  exit_more (Onto c) s = same_more NoTail refl (behind_source width S b (plan_at ps b))
  exit_more (Either op from c d) s = make_more NoTail refl b (plan_at ps b).test op from
      (behind_source width S b (plan_at ps b)) (sends_no_tail op s.0.0)
  exit_more (Lands op from values ls) s = make_more NoTail refl b (plan_at ps b).test op from
      (behind_source width S b (plan_at ps b)) (sends_no_tail op s.0.0)
  exit_more Halts s = rest_more NoTail refl b (record { op = Halt; dests = []; others = [] }) (pulse ∷ [])
      (behind_source width S b (plan_at ps b)) refl

  pub made_past : (P : Op → Type 0) (m : P Merge) → P Advance → Items P (plan_at ps b).items
      → More P m (exit_made width S b (plan_at ps b) (plan_at ps b).exit) (made_at width ps b)
  made_past P m a is = rw (made_is width ps b h (plans b h).edges) (go (plan_at ps b).first)
    where
      E : Made
      E = exit_made width S b (plan_at ps b) (plan_at ps b).exit

      B : Made
      B = body_made width S b (plan_at ps b)

      body : More P m (exit_made width S b (plan_at ps b) (plan_at ps b).exit)
          (body_made width S b (plan_at ps b))
      body = wire_more P m b (plan_at ps b).items (exit_made width S b (plan_at ps b) (plan_at ps b).exit) is

      inner : (j : Bool) → More P m E (cond j (emit b pulse Merge (pulse ∷ []) B) B)
      inner true = then_more P m E B (emit b pulse Merge (pulse ∷ []) B) body
          (emit_more P m b pulse Merge (pulse ∷ []) B m)
      inner false = body

      go : (f : Bool)
          → More P m E (cond f (advances b (plan_at ps b).entries (renew b (plan_at ps b).entries B))
          (cond (merges (plan_at ps b) B) (emit b pulse Merge (pulse ∷ []) B) B))
      go true = then_more P m E (renew b (plan_at ps b).entries B)
          (advances b (plan_at ps b).entries (renew b (plan_at ps b).entries B))
          (then_more P m E B (renew b (plan_at ps b).entries B) body
          (renew_more P m b (plan_at ps b).entries B))
          (advances_more P m b (plan_at ps b).entries (renew b (plan_at ps b).entries B) a)
      go false = inner (merges (plan_at ps b) B)

  pub made_exit : More NoTail refl (exit_made width S b (plan_at ps b) (plan_at ps b).exit)
      (made_at width ps b)
  made_exit = made_past NoTail refl refl (items_no_tail (plan_at ps b).items (plans b h).items)

  pub behind_hung : More NoTail refl hung_made (behind_source width S b (plan_at ps b))
  behind_hung = selected_more NoTail refl b (plan_at ps b).test (tails_of width S (plan_at ps b).exit)
      (end_wants width S (plan_at ps b).exit)

  made_more : More NoTail refl hung_made (made_at width ps b)
  made_more = then_more NoTail refl hung_made (exit_made width S b (plan_at ps b) (plan_at ps b).exit)
      (made_at width ps b)
      (then_more NoTail refl hung_made (behind_source width S b (plan_at ps b))
      (exit_made width S b (plan_at ps b) (plan_at ps b).exit) behind_hung
      (exit_more (plan_at ps b).exit (plans b h).source))
      made_exit

  length_append : (xs ys : List WiredInstr) → length (xs ++ ys) ≡ length xs + length ys
  length_append [] ys = omega arith
  length_append (x ∷ xs) ys = grind (arith, length_append xs ys)

  tails_end : F b + length made_more.front + length (tails_of width S (plan_at ps b).exit) ≡ F (suc b)
  tails_end = grind (arith, begins_next, made_more, hung_made, length_append, hang_count)

  -- a tail is an instruction
  pub record TailInstr (i : ℕ) (t : Tail) : Type 0 where
    pub instr : ℕ
    pub inside : IsIn I b instr
    pub is : instr_at I instr ≡ instr_of F t.line
    pub number : instr + length (tails_of width S (plan_at ps b).exit) ≡ F (suc b) + i

  pub tail_instr : (i : ℕ) (t : Tail) → nth (tails_of width S (plan_at ps b).exit) i ≡ Some t → TailInstr i t
  tail_instr i t e =
      let z : F b + length made_more.front + length (tails_of width S (plan_at ps b).exit) ≡ F (suc b) =
      tails_end in
      let l : i < length (tails_of width S (plan_at ps b).exit) =
      nth_short (tails_of width S (plan_at ps b).exit) i t e in
      let y : first_number I b ≡ F b = number_is arrays width ps b in let w : first_number I (suc b)
      ≡ F (suc b) = number_is arrays width ps (suc b) in
      record {
        instr = F b + (length made_more.front + i);
        inside = (omega arith, omega arith);
        is = instr_is arrays width ps b (length made_more.front + i) t.line h
            (ap (λ (c : List WiredInstr). nth c (length made_more.front + i)) made_more.split
            ∙ nth_append_right made_more.front hung_made.code i
            ∙ hang_nth b 6 (plan_at ps b).test (tails_of width S (plan_at ps b).exit)
            (end_wants width S (plan_at ps b).exit) i t e);
        number = omega arith;
      }

  pub tail_at : (i : ℕ) (t : Tail) (e : nth (tails_of width S (plan_at ps b).exit) i ≡ Some t)
      → TailAt (F (suc b)) (tail_instr i t e).instr t.held (tails_of width S (plan_at ps b).exit)
  tail_at i t e = record { place = i; tail = t; at = e; number = (tail_instr i t e).number; holds = refl }

  -- and each steer and send is a tail
  pub record IsTail (m : ℕ) : Type 0 where
    pub place : ℕ
    pub tail : Tail
    pub at : nth (tails_of width S (plan_at ps b).exit) place ≡ Some tail
    pub is : instr_at I m ≡ instr_of F tail.line
    pub number : m + length (tails_of width S (plan_at ps b).exit) ≡ F (suc b) + place

  some_tail : (xs : List Tail) (i : ℕ) → i < length xs → (x : Tail) × (nth xs i ≡ Some x)
  some_tail [] i l = absurd (omega arith)
  some_tail (x ∷ xs) zero l = (x, refl)
  some_tail (x ∷ xs) (suc i) l = some_tail xs i (omega arith)

  pub is_tail : (m : ℕ) → IsIn I b m → is_tail_op (instr_at I m).op ≡ true → IsTail m
  is_tail m i e = go (cases_lt l.place (length made_more.front))
    where
      l : LineOf arrays width ps Live plans b h m
      l = line_in arrays width ps Live plans b h m i

      go : (l.place < length made_more.front) ⊎ (length made_more.front ≤ l.place) → IsTail m
      go (inl u) = absurd (both_ways (is_tail_op l.line.op)
          (line_at NoTail made_more.front l.place l.line made_more.kind
          (sym (nth_append_left made_more.front hung_made.code l.place u)
          ∙ ap (λ (c : List WiredInstr). nth c l.place) (sym made_more.split) ∙ l.found))
          (ap (λ (n : Instr). is_tail_op n.op) (sym l.is) ∙ e))
      go (inr u) =
          let z : F b + length made_more.front + length (tails_of width S (plan_at ps b).exit) ≡ F (suc b) =
          tails_end in
          let n : m ≡ F b + l.place = l.number in
          let w : first_number I (suc b) ≡ F (suc b) = number_is arrays width ps (suc b) in
          let s = some_tail (tails_of width S (plan_at ps b).exit) (l.place - length made_more.front)
          (omega (arith, i.1)) in
          let t = tail_instr (l.place - length made_more.front) s.0 s.1 in
          let q : t.instr ≡ m =
          (let a : t.instr + length (tails_of width S (plan_at ps b).exit) ≡ F (suc b)
          + (l.place - length made_more.front) = t.number in omega arith) in
          record {
            place = l.place - length made_more.front;
            tail = s.0;
            at = s.1;
            is = ap (instr_at I) (sym q) ∙ t.is;
            number = omega arith;
          }

  pub tail_in : (m x : ℕ) → TailAt (F (suc b)) m x (tails_of width S (plan_at ps b).exit) → IsIn I b m
  tail_in m x t =
      let s = tail_instr t.place t.tail t.at in
      let n : s.instr + length (tails_of width S (plan_at ps b).exit) ≡ F (suc b) + t.place = s.number in
      let n' : m + length (tails_of width S (plan_at ps b).exit) ≡ F (suc b) + t.place = t.number in
      let e : s.instr ≡ m = omega arith in subst (λ (k : ℕ). IsIn I b k) e s.inside
