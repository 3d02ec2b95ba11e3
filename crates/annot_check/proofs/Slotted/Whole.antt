-- The start, and the whole pass.
use Rattle.std.proofs.Common.{ℕ, suc, ◌+◌, ◌-◌, ◌*◌, ◌≡◌, ◌<◌, ◌⊎◌, true, List, [], ◌∷◌, ◌++◌, length, Option}
use Rattle.std.proofs.Common.{Some, None, get_or, refl, sym, ap, ap₂, ◌∙◌, inl, inr, subst, arith, take}
use Rattle.std.proofs.Common.{length-append, length-take}
use Rattle.ws_isa.specs.View as view
use Rattle.ws_isa.specs.declared.instr.Dest.{Dest}
use Rattle.ws_isa.specs.Image.{Pad, Block, Image, block_at, first_number, is_first, pad_of, start_dests}
use Rattle.ws_isa.specs.Image.{IsBlock}
use Rattle.ws_isa.specs.Sound.{OpenSlots, none_open, all_opened, Fresh, begin, AdvancesOpen}
use Rattle.annot_check.specs.declared.trace.Entry.{Entry}
use Rattle.annot_check.specs.declared.trace.Trace.{Trace}
use Rattle.annot_check.specs.Breaches.{Taken, PortBreach, start}
use Rattle.annot_check.specs.Runs.{run}
use Rattle.annot_check.specs.Done.{EdgeDone, BlockDone, Begun, CameTo, PassedWith, WaveDone}
use Rattle.annot_check.specs.Table.{image_of, trace_nodes, entry_at, entry_slots, known, set_slots, Grows}
use Rattle.annot_check.specs.Table.{Shut, Between, Reached, HasNumber, AllPassed, Ready, StartsOf, board_size}
use Rattle.annot_check.specs.Open.{OpenOk}
use Rattle.ws_isa.specs.Formed.{Formed, most_instrs}
use Rattle.annot_check.proofs.Slotted.Entries.{set_stays, edge_grows, has_left, has_last, has_either}
use Rattle.ws_isa.proofs.Blocks.{number_last}
use Rattle.ws_isa.proofs.Certified.{first_is}

pub start_read : (image : Image) (x : Block) (pads : List Pad) (ds : List Dest) → x ≡ block_at image 1 →
    pads ≡ x.pads → ds ≡ pad_of pads 0 → ds ≡ start_dests image
unfolding start_dests
start_read image x pads ds e f g = grind arith

pub start_bad : (image : Image) (o : OpenSlots) (ds : List Dest) (j q : ℕ) → ds ≡ start_dests image →
    o ≡ none_open → Taken ds o j q → PortBreach image j q
start_bad image o ds j q e f t = start (grind arith)

pub begun_ok : (image : Image) (o p : OpenSlots) (ds : List Dest) → ds ≡ start_dests image → o ≡ none_open →
    Fresh ds o → p ≡ all_opened ds o → AdvancesOpen image 1 p → Begun image
begun_ok image o p ds e f fresh g a = record {
  fresh = subst (λ (xs : List Dest). Fresh xs none_open) e (subst (λ (s : OpenSlots). Fresh ds s) f fresh);
  begins = subst (AdvancesOpen image 1) (g ∙ ap₂ all_opened e f) a;
}

-- the start pulse's path comes into block 1
pub came_ok : (image : Image) → IsBlock image 1 → Begun image → CameTo image 1
came_ok image h b = record {
  here = h;
  first = first_is image;
  slots = all_opened (start_dests image) none_open;
  path = begin;
  advances = b.begins;
}

pub none_has : (xs : List ℕ) (b : ℕ) → xs ≡ [] → HasNumber xs b → ⊥
none_has xs b e h = rw e at h

no_number : (xs : List ℕ) → ((b : ℕ) → HasNumber xs b → ⊥) → xs ≡ []
no_number [] h = refl
no_number (x ∷ xs) h = absurd (h x (inl refl))

pub between_ok : (t u : Trace) → Ready u → Shut u → Grows t u →
    ((b : ℕ) → entry_at t.table.items b ≡ None) → t.todo.items ≡ [] → u.table.items ≡ t.table.items
    → Between u
between_ok t u r s g n e same = record {
  ready = r;
  shut = s;
  blank = blank;
  no_todo = no_number u.todo.items (grind (arith, none_has));
}
  where
    blank : (b : ℕ) → entry_at u.table.items b ≡ None
    blank b = ap (λ (x : List (Option Entry)). entry_at x b) same ∙ n b

done_grows : (t u : Trace) → Ready t → Grows t u → (b : ℕ) (o : OpenSlots) →
    BlockDone (image_of t) (known t) b o → BlockDone (image_of u) (known u) b o
done_grows t u r g b o d = subst (λ (x : Image). BlockDone x (known u) b o) (sym (ap view.image g.image))
    (record {
      here = d.here;
      good = d.good;
      ended = record {
        stop = d.ended.stop;
        edges = λ s q. subst (λ (x : Image). EdgeDone x (known u) b q
            (after b o)) (ap view.image g.image) (edge_grows t u r g b q (after b o) (d.ended.edges s q));
      };
    })
  where
    after : ℕ → OpenSlots → OpenSlots
    after b o = run (block_at (image_of t) b).instrs (first_number (image_of t) b) o

-- the popped block was passed, what is new is to be visited
pub passed_more : (t u : Trace) (todo : List ℕ) (n f : ℕ) (passed more : List ℕ)
    → todo ≡ t.todo.items ++ n ∷ [] →
    more ≡ passed ++ n ∷ [] → Ready t → Grows t u →
    ((b : ℕ) (e : Entry) → entry_at t.table.items b ≡ Some e → HasNumber todo b ⊎ (HasNumber passed b ×
    (PassedWith (image_of t) f b → BlockDone (image_of t) (known t) b (set_slots t e.set)))) →
    (PassedWith (image_of t) f n → (e : Entry) → entry_at t.table.items n ≡ Some e →
    BlockDone (image_of u) (known u) n (set_slots t e.set)) → AllPassed u f more
passed_more t u todo n f passed more h m r g all done b e k = elim (g.table.is_new b e k) [
  | inr new ↦ inl new
  | inl old ↦ elim (all b e old) [
    | inr d ↦ inr (grind (arith, has_left), λ w. here b e old (grind (arith, done_grows)))
    | inl q ↦ elim (has_either t.todo.items n b (rw h at q)) [
      | inl x ↦ inl (g.table.todo b x)
      | inr s ↦ inr (rw (m, ← s) (has_last passed n), λ w. here b e old (grind arith))
    ]
  ]
]
  where
    here : (b : ℕ) (e : Entry) → entry_at t.table.items b ≡ Some e →
        BlockDone (image_of u) (known u) b (set_slots t e.set) →
        BlockDone (image_of u) (known u) b (set_slots u e.set)
    here b e old d = subst (BlockDone (image_of u) (known u) b)
        (sym (set_stays t u r.held.nodes g.nodes g.depth e.set (r.table_ok b e old).there)) d

-- a block is in the table, and so are all of a list
abbrev pub InTable : Trace → ℕ → Type 0
InTable t b = (e : Entry) × (entry_at t.table.items b ≡ Some e)

abbrev pub AllIn : Trace → List ℕ → Type 0
AllIn t numbers = (b : ℕ) → HasNumber numbers b → InTable t b

pub all_in_grown : (t u : Trace) (numbers : List ℕ) → Grows t u → AllIn t numbers → AllIn u numbers
all_in_grown t u numbers g all b h = let e = all b h in (e.0, g.table.keeps b e.0 e.1)

pub todo_in : (t u : Trace) → Grows t u → AllIn t t.todo.items → AllIn u u.todo.items
todo_in t u g all b h = grind arith

pub all_in_front : (t : Trace) (numbers front : List ℕ) (n : ℕ) → numbers ≡ front ++ n ∷ [] →
    AllIn t numbers → AllIn t front
all_in_front t numbers front n e all b h = all b (rw e (has_left front (n ∷ []) b h))

pub all_in_more : (t : Trace) (numbers more : List ℕ) (n : ℕ) → more ≡ numbers ++ n ∷ [] → AllIn t numbers →
    InTable t n → AllIn t more
all_in_more t numbers more n e all i b h = grind (arith, has_either)

-- a block of the table is come into
pub came_in : (t : Trace) (b : ℕ) → Ready t → InTable t b → is_first (image_of t) b ≡ true →
    CameTo (image_of t) b
came_in t b r i f = let x : Reached t b i.0 = r.table_ok b i.0 i.1 in grind arith

pub all_left_passed : (t : Trace) (f : ℕ) (passed : List ℕ) → t.todo.items ≡ [] → AllPassed t f passed →
    (b : ℕ) (e : Entry) → entry_at t.table.items b ≡ Some e → HasNumber passed b
all_left_passed t f passed none all b e h = elim (all b e h) [
  | inl m ↦ absurd (none_has t.todo.items b none m)
  | inr d ↦ d.0
]

-- when nothing is left to be visited the table is that of the wave
pub wave_done : (t : Trace) (f : ℕ) (passed : List ℕ) → t.todo.items ≡ [] → Ready t → AllPassed t f passed →
    InTable t f → is_first (image_of t) f ≡ true → WaveDone (image_of t) (λ b. HasNumber passed b) f
wave_done t f passed none r all i first = record {
  known = known t;
  table = record {
    slots = set_slots t i.0.set;
    starts = ap (entry_slots t) i.1;
    begins = (r.table_ok f i.0 i.1).crossing first;
    across = λ b s k x. (let e = entry_is b s (entry_at t.table.items b) refl k in
        all_left_passed t f passed none all b e.0 e.1.0);
    done = λ b s k w. (let e = entry_is b s (entry_at t.table.items b) refl k in
        subst (BlockDone (image_of t) (known t) b) e.1.1 (at_done b e.0 e.1.0 w));
  };
}
  where
    entry_is : (b : ℕ) (s : OpenSlots) (x : Option Entry) → entry_at t.table.items b ≡ x →
        entry_slots t x ≡ Some s
        → (e : Entry) × ((entry_at t.table.items b ≡ Some e) × (set_slots t e.set ≡ s))
    entry_is b s x e h = grind arith

    at_done : (b : ℕ) (e : Entry) → entry_at t.table.items b ≡ Some e → PassedWith (image_of t) f b →
        BlockDone (image_of t) (known t) b (set_slots t e.set)
    at_done b e h w = elim (all b e h) [ inl m ↦ grind (arith, none_has) | inr d ↦ d.1 w ]

-- the first block of a wave is come into with the slots of a set that has its advances
pub reached_again : (t : Trace) (b : ℕ) (e : Entry) → CameTo (image_of t) b → e.set < length (trace_nodes t) →
    AdvancesOpen (image_of t) b (set_slots t e.set) → Reached t b e
reached_again t b e m l a = grind arith

-- a wave is begun
pub begun_wave : (t u : Trace) (f : ℕ) (passed : List ℕ) → ((b : ℕ) → entry_at t.table.items b ≡ None)
    → Grows t u →
    AllPassed u f passed
begun_wave t u f passed n g b e h = grind arith

pub begun_in : (t u : Trace) → t.todo.items ≡ [] → Grows t u → AllIn u u.todo.items
begun_in t u n g b k = grind arith

pub ends_number : (xs : List ℕ) (n : ℕ) → HasNumber (xs ++ n ∷ []) n
ends_number [] n = inl refl
ends_number (x ∷ xs) n = inr (ends_number xs n)

-- the wave of a block is done with more blocks that are come to
pub wave_among : (image : Image) (f : ℕ) (one more : ℕ → Type 0) →
    ((b : ℕ) → one b → is_first image b ≡ true → more b) → WaveDone image one f → WaveDone image more f
wave_among image f one more grow w = grind arith

pub nil_left : (xs ys : List ℕ) (n : ℕ) → n ≡ length xs → xs ≡ ys ++ [] → ys ≡ take (n - 1) xs → xs ≡ []
nil_left xs ys n h e f = grind (arith, length-append, length-take)

-- the size of the board, by the number behind the last instruction
pub board_is : (image : Image) (starts : List ℕ) (n m : ℕ) → StartsOf image starts → n ≡ length image.blocks →
    m ≡ get_or starts (n + 1) m → 4 * m + 4 ≡ board_size image
unfolding board_size
board_is image starts n m s e f = let g : get_or starts (n + 1) m ≡ get_or starts (n + 1) 0 = in_range starts
    (n + 1) m 0 (omega (arith, s.0, e)) in grind arith
  where
    in_range : (xs : List ℕ) (k a b : ℕ) → k < length xs → get_or xs k a ≡ get_or xs k b
    in_range (x ∷ xs) (suc k) a b l = in_range xs k a b (omega arith)
    in_range xs k a b l = grind arith

pub board_small : (image : Image) (n : ℕ) → Formed image → n ≡ board_size image → n < 1073741824
unfolding board_size most_instrs
board_small image n f e = omega (arith, e, f.few_instrs, number_last image)

pub opening_ready : (t : Trace) → Formed (image_of t) → StartsOf (image_of t) t.starts.now → OpenOk t.held →
    length t.held.board.items ≡ board_size (image_of t) →
    length t.table.items ≡ length (image_of t).blocks + 1 → ((b : ℕ) → entry_at t.table.items b ≡ None) →
    Ready t
opening_ready t f s o l n none = grind arith
