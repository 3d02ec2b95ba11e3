-- What an exit reads stays as it was read.
use Rattle.std.proofs.Common.{ℕ, zero, suc, ◌+◌, ◌-◌, ◌≡◌, ◌<◌, ◌≤◌, ◌⊎◌, ◌&&◌, not, Bool, false, cond, List}
use Rattle.std.proofs.Common.{[], ◌∷◌, ◌++◌, length, map, refl, sym, ap, ◌∙◌, subst, inl, inr, arith}
use Rattle.ws_isa.specs.declared.instr.Op.{Op}
use Rattle.ws_isa.specs.declared.instr.Op.TheVariants.{Merge}
use Rattle.ws_isa.specs.Image.{is_memory_op, result_of_op}
use Rattle.wave_gen.specs.Waits.{Step, Fires, Rests, Skips, Copies}
use Rattle.wave_gen.specs.Wire.{WiredInstr, Wants, Made, emit, rest, skip, copy, gather, with_room}
use Rattle.wave_gen.specs.Wire.{with_rooms, Item, is_nil, make, alias, wire_item, wire}
use Rattle.wave_gen.specs.Plans.{Tail, TailAt, operands_of, hung, hang, more, chain, selected, renew}
use Rattle.wave_gen.specs.Plans.{advances, has_front}
use Rattle.ws_isa.proofs.Blocks.{nth_append_right}
use Rattle.ws_words.proofs.Lists.{append_on as append_assoc}

abbrev pub Gives : Op → List ℕ → ℕ → Type 0
Gives op from h = (is_memory_op op ≡ false) × ((env : ℕ → ℕ) → result_of_op op (map env from) ≡ env h)

-- steps from number k on, the results of which the exit reads by K
abbrev pub KeptOk : (ℕ → ℕ → Type 0) → ℕ → List Step → Type 0
KeptOk K k [] = Unit {0}
KeptOk K k (Fires x op from ∷ ss) = ((m h : ℕ) → K m h → m < k → x ≡ h → (op ≡ Merge) × (from ≡ h ∷ []))
    × ((h : ℕ) → K k h → x ≡ h) × KeptOk K (suc k) ss
KeptOk K k (Rests op from ∷ ss) = ((h : ℕ) → K k h → Gives op from h) × KeptOk K (suc k) ss
KeptOk K k (Skips x op from ∷ ss) = ((m h : ℕ) → K m h → m < k → x ≡ h → ⊥) × KeptOk K k ss
KeptOk K k (Copies x y ∷ ss) = ((m h : ℕ) → K m h → m < k → x ≡ h → ⊥) × KeptOk K k ss

module _ (K : ℕ → ℕ → Type 0) (top : ℕ) where
  abbrev pub KeptAt : Made → Type 0
  KeptAt s = KeptOk K (top - length s.code) s.steps

  -- before the instruction by which the edge is chosen, which is the first that is read
  module _ (src : ℕ) (from_src : (m h : ℕ) → K m h → src ≤ m) where
    pub record Body (s : Made) : Type 0 where
      pub grown : top ≤ src + length s.code
      pub kept : length s.code ≤ top → KeptAt s

    emit_body : (b x : ℕ) (op : Op) (from : List ℕ) (s : Made) → Body s → Body (emit b x op from s)
    emit_body b x op from s h = grind arith

    rest_body : (b : ℕ) (line : WiredInstr) (from : List ℕ) (s : Made) → Body s → Body (rest b line from s)
    rest_body b line from s h = grind arith

    skip_body : (x : ℕ) (op : Op) (from : List ℕ) (s : Made) → Body s → Body (skip x op from s)
    skip_body x op from s h = grind arith

    copy_body : (x y : ℕ) (s : Made) → Body s → Body (copy x y s)
    copy_body x y s h = grind arith

    room_body : (b n x : ℕ) (s : Made) → Body s → Body (with_room b n x s)
    room_body b n x s h = grind (arith, s.wants, emit_body)

    rooms_body : (b n : ℕ) (xs : List ℕ) (s : Made) → Body s → Body (with_rooms b n xs s)
    rooms_body b n [] s h = h
    rooms_body b n (x ∷ xs) s h = rooms_body b n xs (with_room b n x s) (room_body b n x s h)

    make_body : (b x : ℕ) (op : Op) (from : List ℕ) (s : Made) → Body s → Body (make b x op from s)
    make_body b x op from s h = grind (arith, emit_body, rooms_body)

    alias_body : (b x y : ℕ) (s : Made) → Body s → Body (alias b x y s)
    alias_body b x y s h = grind (arith, copy_body, s.wants, emit_body)

    item_body : (b : ℕ) (i : Item) (s : Made) → Body s → Body (wire_item b i s)
    item_body b i s h = grind (arith, s.wants, skip_body, make_body, rest_body, rooms_body, alias_body)

    pub wire_body : (b : ℕ) (is : List Item) (s : Made) → Body s → Body (wire b is s)
    wire_body b [] s h = h
    wire_body b (i ∷ is) s h = item_body b i (wire b is s) (wire_body b is s h)

    pub renew_body : (b : ℕ) (xs : List ℕ) (s : Made) → Body s → Body (renew b xs s)
    renew_body b [] s h = h
    renew_body b (x ∷ xs) s h = renew_body b xs (cond (has_front b (s.wants x)) (gather b x s) s)
        (go (has_front b (s.wants x)))
      where
        go : (f : Bool) → Body (cond f (gather b x s) s)
        go f = grind (arith, emit_body)

    pub advances_body : (b : ℕ) (xs : List ℕ) (s : Made) → Body s → Body (advances b xs s)
    advances_body b [] s h = h
    advances_body b (x ∷ xs) s h = grind (arith, emit_body, advances_body b xs s h)

    pub merge_body : (b x : ℕ) (s : Made) → Body s → Body (gather b x s)
    merge_body b x s h = emit_body b x Merge (x ∷ []) s h

    pub act_body : (b : ℕ) (line : WiredInstr) (from : List ℕ) (s : Made) → Body s → Body (rest b line from s)
    act_body = rest_body

-- a tail holds a value that its operands give
pub record Holds (t : Tail) : Type 0 where
  pub gives : (z : ℕ) → Gives t.line.op (operands_of t.line.op t.held z) t.held

abbrev pub AllHold : List Tail → Type 0
AllHold [] = Unit {0}
AllHold (t ∷ ts) = Holds t × AllHold ts

pub hang_count : (b n z : ℕ) (ts : List Tail) (w : Wants) → length (hang b n z ts w).code ≡ length ts
hang_count b n z [] w = refl
hang_count b zero z (t ∷ ts) w = ap suc (hang_count b 5 (suc z) ts w)
hang_count b (suc n) z (t ∷ ts) w = ap suc (hang_count b n z ts w)

length_append : {A : Type 0} (xs ys : List A) → length (xs ++ ys) ≡ length xs + length ys
length_append [] ys = omega arith
length_append (x ∷ xs) ys = grind (arith, length_append xs ys)

-- From there on: `most_code` instructions stand behind it, at the end the tails.
module _ (K : ℕ → ℕ → Type 0) (top src z most_code : ℕ) (ts : List Tail) (room : suc most_code ≤ top)
    (src_is : src ≡ top - suc most_code) (enough : length ts ≤ most_code)
    (only : (m h : ℕ) → K m h → ((m ≡ src) × (h ≡ z)) ⊎ TailAt top m h ts) (hold : AllHold ts) where
  -- a tail stands at the end
  tail_late : (m h : ℕ) → TailAt top m h ts → top ≤ m + length ts
  tail_late m h t = let e : m + length ts ≡ top + t.place = t.number in omega arith

  pub from_src : (m h : ℕ) → K m h → src ≤ m
  from_src m h k = grind (arith, tail_late)

  pub record Chained (s : Made) : Type 0 where
    pub long : length ts ≤ length s.code
    pub kept : length s.code ≤ most_code → KeptAt K top s

  -- a name that isn't read, or a merge
  Other : ℕ → Op → List ℕ → Type 0
  Other x op from = (x ≡ z → ⊥) ⊎ ((op ≡ Merge) × (from ≡ x ∷ []))

  read_before : (m h k : ℕ) → K m h → m < k → k + length ts ≤ top → h ≡ z
  read_before m h k r u l = grind (arith, tail_late)

  not_read : (k h : ℕ) → src < k → k + length ts < top → K k h → ⊥
  not_read k h l u r = grind (arith, tail_late)

  emit_chain : (b x : ℕ) (op : Op) (from : List ℕ) (s : Made) → Other x op from → Chained s
      → Chained (emit b x op from s)
  unfolding Other
  emit_chain b x op from s other c = grind (arith, read_before, not_read)

  skip_chain : (x : ℕ) (op : Op) (from : List ℕ) (s : Made) → (x ≡ z → ⊥) → Chained s
      → Chained (skip x op from s)
  skip_chain x op from s n c = grind (arith, read_before)

  room_chain : (b n x : ℕ) (s : Made) → Chained s → Chained (with_room b n x s)
  unfolding Other
  room_chain b n x s c = grind (arith, s.wants, emit_chain)

  pub rooms_chain : (b n : ℕ) (xs : List ℕ) (s : Made) → Chained s → Chained (with_rooms b n xs s)
  rooms_chain b n [] s c = c
  rooms_chain b n (x ∷ xs) s c = grind (
    arith,
    room_chain,
    rooms_chain b n xs (with_room b n x s) (room_chain b n x s c),
  )

  chain_chain : (b y n : ℕ) (s : Made) → z ≤ y → Chained s → Chained (wire b (chain y n) s)
  unfolding Other
  chain_chain b y zero s l c = c
  chain_chain b y (suc n) s l c = go (chain_chain b (suc y) n s (omega arith) c)
      (is_nil ((wire b (chain (suc y) n) s).wants (suc y)) && not (is_memory_op Merge))
    where
      other : suc y ≡ z → ⊥
      other e = omega arith

      go : Chained (wire b (chain (suc y) n) s) → (f : Bool)
          → Chained (cond f (skip (suc y) Merge (y ∷ []) (wire b (chain (suc y) n) s))
          (make b (suc y) Merge (y ∷ []) (wire b (chain (suc y) n) s)))
      go d f = grind (arith, skip_chain, other, emit_chain, rooms_chain)

  -- the tails
  hung_kept : (pre : List Tail) (t : Tail) (post : List Tail) (y : ℕ) (s : Made) → pre ++ (t ∷ post) ≡ ts
      → length s.code ≡ length post → Holds t → (b : ℕ) → KeptAt K top s → KeptAt K top (hung b t y s)
  hung_kept pre t post y s e c holds b k =
      let n : length ts ≡ length pre + suc (length post) = ap length (sym e) ∙ length_append pre (t ∷ post) in
      (reads, (let w : top - length s.code ≡ suc (top - suc (length s.code)) = omega arith in rw w at k))
    where
      held : (h : ℕ) → TailAt top (top - suc (length s.code)) h ts → t.held ≡ h
      held h a =
          let n : length ts ≡ length pre + suc (length post) = ap length (sym e)
          ∙ length_append pre (t ∷ post) in
          let f : (top - suc (length s.code)) + length ts ≡ top + a.place = a.number in
          let g : a.place ≡ length pre + 0 = omega arith in grind (arith, nth_append_right)

      reads : (h : ℕ) → K (top - suc (length s.code)) h → Gives t.line.op (operands_of t.line.op t.held y) h
      reads h r = elim (only (top - suc (length s.code)) h r) [
        | inl f ↦ absurd (let a : top - suc (length s.code) ≡ src = f.0 in
            let n : length ts ≡ length pre + suc (length post) = ap length (sym e)
            ∙ length_append pre (t ∷ post) in omega arith)
        | inr a ↦ subst (λ (x : ℕ). Gives t.line.op (operands_of t.line.op t.held y) x) (held h a)
            (holds.gives y)
      ]

  hang_kept : (b n y : ℕ) (pre post : List Tail) (w : Wants) → pre ++ post ≡ ts → AllHold post
      → KeptAt K top (hang b n y post w)
  hang_kept b n y pre [] w e h = tt
  hang_kept b zero y pre (t ∷ post) w e h = hung_kept pre t post (suc y) (hang b 5 (suc y) post w) e
      (hang_count b 5 (suc y) post w) h.0 b
      (grind (
        arith,
        append_assoc,
        hang_kept b 5 (suc y) (pre ++ (t ∷ [])) post w (append_assoc pre (t ∷ []) post ∙ e) h.1,
      ))
  hang_kept b (suc n) y pre (t ∷ post) w e h = hung_kept pre t post y (hang b n y post w) e
      (hang_count b n y post w) h.0 b
      (grind (
        arith,
        append_assoc,
        hang_kept b n y (pre ++ (t ∷ [])) post w (append_assoc pre (t ∷ []) post ∙ e) h.1,
      ))

  pub selected_chain : (b : ℕ) (w : Wants) → Chained (selected b z ts w)
  selected_chain b w = chain_chain b z (more 6 ts) (hang b 6 z ts w) (omega arith) (record {
    long = let c : length (hang b 6 z ts w).code ≡ length ts = hang_count b 6 z ts w in omega arith;
    kept = λ l. hang_kept b 6 z [] ts w refl hold;
  })

  -- the instruction by which the edge is chosen
  pub source_body : (b : ℕ) (op : Op) (from : List ℕ) (s : Made) → length s.code ≡ most_code → Chained s
      → Body K top src from_src (emit b z op from s)
  source_body b op from s e c = grind (arith, from_src, tail_late)
