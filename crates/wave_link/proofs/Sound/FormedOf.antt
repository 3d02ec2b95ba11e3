-- The image of a draft is formed where there is room for what is added.
use Rattle.std.proofs.Common.{ℕ, zero, suc, ◌+◌, ◌-◌, ◌≡◌, ◌<◌, ◌≤◌, ◌⊎◌, Bool, true, false, cond, eqb, List}
use Rattle.std.proofs.Common.{[], ◌∷◌, ◌++◌, length, length-append, map, get_or, Option, Some, refl}
use Rattle.std.proofs.Common.{sym, ap, ap₂, ◌∙◌, inl, inr, subst, arith}
use Rattle.std.proofs.lemmas.Bool.{cases_eq}
use Rattle.std.specs.List.{AllByRecursion}
use Rattle.ws_isa.specs.declared.instr.Op.{Op}
use Rattle.ws_isa.specs.declared.instr.Op.TheVariants.{Send, Nop}
use Rattle.ws_isa.specs.declared.instr.Link.{Link}
use Rattle.ws_isa.specs.declared.instr.Dest.{Dest}
use Rattle.ws_isa.specs.Image.{Instr, Exit, Goto, Branch, Landings, Stop, Pad, Block, Image, no_instr}
use Rattle.ws_isa.specs.Image.{no_block, flat, instr_at, block_at, first_number, ports}
use Rattle.ws_isa.specs.Image.{is_giving_op, IsIn, IsBlock, IsInstr, is_steer_op}
use Rattle.ws_isa.specs.Formed.{SendWithin, ConstWithin, most_instrs, most_blocks, most_dests, most_pads}
use Rattle.ws_isa.specs.Formed.{most_landings, sequence_limit, ArraysFormed, DestsIn, OpIn, ExitIn}
use Rattle.ws_isa.specs.Formed.{References, DestsSuit, OthersSuit, ListsSuit, SomeLanding, PadsRise, RiseFrom}
use Rattle.ws_isa.specs.Formed.{LinkWithin, NoteWithin, ExitWithin, InstrWithin, BlockWithin, Suited, Formed}
use Rattle.ws_isa.specs.Sound.{HasDest, ShapeRules}
use Rattle.wave_link.specs.Fit.{FitForNotes}
use Rattle.ws_isa.proofs.Blocks.{number_last, at_block}
use Rattle.ws_isa.proofs.Slots.{has_append_cases}
use Rattle.ws_isa.proofs.There.{There, there, dests_there, others_there}
use Rattle.wave_link.specs.declared.links.Passage.{Passage}
use Rattle.wave_link.specs.Layout.{Tables}
use Rattle.wave_link.specs.Notes.{note_at}
use Rattle.wave_link.specs.Grown.{number_in, renamed, extra_dest, note_for, nop_instr, grown_exit, grown_pad}
use Rattle.wave_link.specs.Grown.{annotated}
use Rattle.wave_link.specs.Adds.{adds}
use Rattle.wave_link.specs.Room.{WithinLimits, LeavesRoom, MadeWithin}
use Rattle.wave_link.proofs.Parted.Parts.{tables_in}
use Rattle.wave_link.proofs.Parted.Edges.{exit_kept, wave_kept, count_kept}
use Rattle.wave_link.proofs.Parted.Noted.{all_good}
use Rattle.wave_link.proofs.Parted.Numbers.{nops_are, one_if, shift, shift_next, new, nop, note_in, seq_in}
use Rattle.wave_link.proofs.Parted.Numbers.{writer_in, place_of, ends_are, new_is, instr_is_grown}
use Rattle.wave_link.proofs.Parted.Numbers.{nop_is_there}
use Rattle.wave_link.proofs.Grown.GrownRows.{Located, located}
use Rattle.wave_link.proofs.Grown.GrownOrigin.{is_instr}
use Rattle.wave_link.proofs.Grown.GrownTables.{giver, steer_in}
use Rattle.wave_link.proofs.Grown.GrownTriggers.{same_renamed, pads_kept, now_giver, now_none, other_none}
use Rattle.wave_link.proofs.Grown.GrownTriggers.{giver_gives, steer_steers, steered_by, now_steer}
use Rattle.wave_link.proofs.Grown.GrownTriggers.{other_steer}
use Rattle.wave_link.proofs.Grown.GrownForm.{renamed as by_number}
use Rattle.wave_link.proofs.Grown.GrownOf.{ports_kept, nop_ports, op_kept}
use Rattle.wave_link.proofs.Sound.ShapeOf.{ImageCase, image_case, block_on, block_back, new_inside}
use Rattle.wave_link.proofs.Sound.ShapeOf.{nop_inside, old_inside, renamed_back, the_steer, first_edge}
use Rattle.wave_link.proofs.Sound.ShapeOf.{second_edge, not_stop, dests_grown, others_grown, shape_rules}
use Rattle.wave_link.proofs.Sound.FormedNotes.{UpTo, PlaceUpTo, most_ops, place_up, seq_up, writer_up}
use Rattle.ws_words.proofs.Lists.{all_have as all_each, all_mapped as all_map}
use Rattle.ws_words.specs.Items.{nth, or_else, In}
use Rattle.ws_words.proofs.Places.{nth_short, all_of}

-- What holds at each number holds of all.

instr_read : (image : Image) (k : ℕ) (x : Instr) → nth (flat image.blocks) k ≡ Some x
    → instr_at image (suc k) ≡ x
unfolding instr_at
instr_read image k x e = ap (λ (o : Option Instr). or_else o no_instr) e

block_read : (image : Image) (k : ℕ) (x : Block) → nth image.blocks k ≡ Some x → block_at image (suc k) ≡ x
unfolding block_at
block_read image k x e = ap (λ (o : Option Block). or_else o no_block) e

pub all_instrs : (P : Instr → Type 0) (image : Image) → ((b m : ℕ) → IsBlock image b → IsIn image b m
    → P (instr_at image m)) → AllByRecursion P (flat image.blocks)
all_instrs P image h =
    all_of P (flat image.blocks)
    (λ k x e. (let l : Located image (suc k) = located image (suc k) (grind (arith, nth_short)) in
    subst P (instr_read image k x e) (h l.block (suc k) l.there l.inside)))

pub all_blocks : (P : Block → Type 0) (image : Image) → ((b : ℕ) → IsBlock image b → P (block_at image b))
    → AllByRecursion P image.blocks
all_blocks P image h = grind (arith, all_of, block_read, nth_short)

-- what holds of all instructions holds of each
pub instr_of_all : (P : Instr → Type 0) (image : Image) (k : ℕ) → AllByRecursion P (flat image.blocks)
    → IsInstr image k → P (instr_at image k)
unfolding instr_at
instr_of_all P image zero a h = absurd (omega (arith, h.0))
instr_of_all P image (suc n) a h = go (flat image.blocks) n (omega (arith, h.1)) a
  where
    go : (xs : List Instr) (n : ℕ) → n < length xs → AllByRecursion P xs → P (or_else (nth xs n) no_instr)
    go [] n l a = absurd (omega arith)
    go (x ∷ xs) zero l a = a.0
    go (x ∷ xs) (suc n) l a = go xs n (omega arith) a.1

dests_in : (image : Image) (ds : List Dest) → There image ds → DestsIn image ds
dests_in image [] h = tt
dests_in image (d ∷ ds) h = (h d.instr d.port (inl (refl, refl)), dests_in image ds (λ j q x. h j q (inr x)))

-- Lists.

renamed_length : (t : Tables) (ds : List Dest) → length (renamed t ds) ≡ length ds
renamed_length t [] = refl
renamed_length t (d ∷ ds) = ap suc (renamed_length t ds)

extra_length : (n : ℕ) → length (extra_dest n) ≤ 1
extra_length n = grind arith

list_length : (t : Tables) (ds : List Dest) (n : ℕ) → length (renamed t ds ++ extra_dest n) ≤ length ds + 1
list_length t ds n = grind (arith, length-append, renamed_length, extra_length)

extra_none : (n : ℕ) → n ≡ 0 → extra_dest n ≡ []
extra_none n e = rw e refl

-- what comes of an empty list, where nothing is added
empty_grown : (t : Tables) (ds : List Dest) (n : ℕ) → n ≡ 0 → ds ≡ [] → renamed t ds ++ extra_dest n ≡ []
empty_grown t ds n e f = ap₂ (λ (a b : List Dest). a ++ b) (ap (renamed t) f) (extra_none n e)

-- The counts.

shift_first : (draft : Image) → shift draft 1 ≡ 0
unfolding shift
shift_first draft = refl

shift_small : (draft : Image) (n : ℕ) → shift draft (suc n) ≤ n
shift_small draft zero = omega (arith, shift_first draft)
shift_small draft (suc n) = grind (arith, shift_next, one_if, shift_small draft n)

-- each block adds one instruction at most
pub instrs_grown : (draft : Image) → IsBlock draft 1 → length (flat (annotated draft).blocks) ≤ most_ops draft
instrs_grown draft h =
    let n : ℕ = length draft.blocks in
    let l : 1 ≤ n = h.1 in
    let e = ends_are draft n (l, omega arith) in
    let a : first_number draft (suc n) ≡ suc (length (flat draft.blocks)) = number_last draft in
    let b : first_number (annotated draft) (suc n) ≡ suc (length (flat (annotated draft).blocks)) =
    grind (arith, count_kept, number_last) in
    omega (arith, e, a, b, shift_next draft n l, shift_small draft n)

-- and takes none away
instrs_kept : (draft : Image) → IsBlock draft 1
    → length (flat draft.blocks) ≤ length (flat (annotated draft).blocks)
instrs_kept draft h =
    let n : ℕ = length draft.blocks in
    let l : 1 ≤ n = h.1 in
    let e = ends_are draft n (l, omega arith) in
    grind (arith, number_last, count_kept)

-- Notes.

pub link_fits : (t : ℕ) (l : Link) → t < sequence_limit → UpTo t l → LinkWithin l
link_fits t l h u = grind arith

cond_link : (v : Bool) (k l : Link) → LinkWithin k → LinkWithin l → LinkWithin (cond v k l)
cond_link v k l h g = grind arith

cond_number : (v : Bool) (a b t : ℕ) → a < t → b < t → cond v a b < t
cond_number v a b t h g = grind arith

pub note_fits : (t : ℕ) (p : Passage) (op : Op) (s w : ℕ) → PlaceUpTo t p → t < sequence_limit
    → s + 1 < sequence_limit → w < sequence_limit → NoteWithin (Some (note_at p op s w))
note_fits t p op s w h a b c = grind (arith, cond_link, link_fits, cond_number)

pub for_fits : (t : ℕ) (p : Passage) (op : Op) (s w : ℕ) → PlaceUpTo t p → t < sequence_limit
    → s + 1 < sequence_limit → w < sequence_limit → NoteWithin (note_for p op s w)
for_fits t p op s w h a b c = grind (arith, note_fits)

pub instr_limit : most_instrs ≡ 4194304
unfolding most_instrs
instr_limit = refl

block_limit : most_blocks ≡ 131072
unfolding most_blocks
block_limit = refl

-- Lists that suit.

dests_suit : (op : Op) (ds es : List Dest) → DestsSuit op ds
    → (is_giving_op op ≡ false → is_steer_op op ≡ false → ds ≡ [] → es ≡ []) → DestsSuit op es
dests_suit op ds es h f = grind arith

others_suit : (op : Op) (ds es : List Dest) → OthersSuit op ds → (is_steer_op op ≡ false → ds ≡ [] → es ≡ [])
    → OthersSuit op es
others_suit op ds es h f = grind arith

-- Operations and arrays.

arrays_kept : (draft : Image) → (annotated draft).arrays ≡ draft.arrays
unfolding annotated
arrays_kept draft = refl

op_in : (draft : Image) (op : Op) → OpIn draft op → OpIn (annotated draft) op
unfolding annotated
op_in draft op h = grind arith

-- Pads.

rise_map : (t : Tables) (n : ℕ) (ps : List Pad) → RiseFrom n ps → RiseFrom n (map (grown_pad t) ps)
rise_map t n [] h = tt
rise_map t n (p ∷ ps) h = (h.0, rise_map t p.number ps h.1)

pads_rise : (t : Tables) (ps : List Pad) → PadsRise ps → PadsRise (map (grown_pad t) ps)
pads_rise t ps h = grind (arith, rise_map)

pub all_members : {A : Type 0} (P : A → Type 0) (xs : List A) → ((x : A) → In x xs → P x)
    → AllByRecursion P xs
all_members P [] h = tt
all_members P (x ∷ xs) h = (h x (inl refl), all_members P xs (λ y i. h y (inr i)))

member_of : {A : Type 0} (P : A → Type 0) (xs : List A) (x : A) → AllByRecursion P xs → In x xs → P x
member_of P [] x h i = absurd i
member_of P (y ∷ xs) x h (inl e) = subst P (sym e) h.0
member_of P (y ∷ xs) x h (inr i) = member_of P xs x h.1 i

send_within : (op : Op) → ((p : ℕ) → op ≡ Send p → p < most_pads) → SendWithin op
send_within op h = grind arith

-- Exits.

landing_on : (t : Tables) (x : Exit) → SomeLanding x → SomeLanding (grown_exit t x)
landing_on t x h = grind arith

exit_within : (t : Tables) (x : Exit) → ((s : ℕ) (ls : List ℕ) → x ≡ Landings s ls
    → length ls ≤ most_landings) → ExitWithin (grown_exit t x)
exit_within t x h = grind arith

module _ (draft : Image) (ok : FitForNotes draft) where
  refs : References draft
  refs = ok.walkable.suited.references

  shape : ShapeRules draft
  shape = ok.walkable.shape

  new_number : (s : ℕ) → IsInstr (annotated draft) (new draft s)
      → IsInstr (annotated draft) (number_in (tables_in draft.blocks) s)
  unfolding new
  new_number s h = h

  in_image : (b m : ℕ) → IsBlock draft b → IsIn (annotated draft) b m → IsInstr (annotated draft) m
  in_image b m h i = is_instr (annotated draft) b m (block_on draft b h) i

  -- a destination of the draft is there in the image
  renamed_there : (ds : List Dest) → There draft ds → There (annotated draft) (by_number (new draft) ds)
  renamed_there ds h j q x =
      let r = renamed_back (new draft) ds j q x in
      let y = h r.0 q r.1 in
      let l : Located draft r.0 = located draft r.0 y.0 in
      subst (λ (n : ℕ). IsInstr (annotated draft) n × (q < ports (annotated draft) n)) r.2 (
        in_image l.block (new draft r.0) l.there (new_inside draft l.block r.0 l.there l.inside),
        omega (
          arith,
          y.1,
          ap (ports (annotated draft)) (new_is draft l.block r.0 l.there l.inside),
          ports_kept draft l.block r.0 l.there l.inside,
        ),
      )

  -- so is a no-op
  abbrev pub IsNop : ℕ → Type 0
  IsNop n = (n ≡ 0) ⊎ ((c : ℕ) × IsBlock draft c × (adds draft c ≡ true) × (n ≡ nop draft c))

  extra_there : (n : ℕ) → IsNop n → There (annotated draft) (extra_dest n)
  extra_there n (inl e) j q x = absurd (rw (extra_none n e) at x)
  extra_there n (inr (c, h, a, e)) j q x = go (eqb n 0) x
    where
      go : (v : Bool) → HasDest (cond v [] (record { instr = n; port = 0 } ∷ [])) j q
          → IsInstr (annotated draft) j × (q < ports (annotated draft) j)
      go true z = absurd z
      go false (inr z) = absurd z
      go false (inl z) = subst (λ (m : ℕ). IsInstr (annotated draft) m × (q < ports (annotated draft) m))
          (sym e ∙ z.0)
          (in_image c (nop draft c) h (nop_inside draft c h a), omega (arith, nop_ports draft c h a, z.1))

  steered_nop : (c : ℕ) → IsBlock draft c → IsNop (steered_by draft c)
  unfolding steered_by
  steered_nop c h = grind (arith, nops_are)

  own_nop : (b : ℕ) → IsBlock draft b → IsNop (cond (adds draft b) (nop draft b) 0)
  own_nop b h = grind (arith, nop)

  now_nop : (b k : ℕ) → IsBlock draft b → IsIn draft b k → IsNop (get_or (tables_in draft.blocks).now k 0)
  now_nop b k h i = go (cases_eq (steer_in draft b) k) (cases_eq (giver draft b) k)
    where
      go : (steer_in draft b ≡ k) ⊎ (steer_in draft b ≡ k → ⊥) → (giver draft b ≡ k) ⊎ (giver draft b ≡ k → ⊥)
          → IsNop (get_or (tables_in draft.blocks).now k 0)
      go (inl s) g =
          let e = (shape.blocks b h).hang.steers k i (the_steer draft ok b k h i s) in
          subst IsNop (sym (now_steer draft b k e.0 e.1 e.2 h i e.3 s))
          (steered_nop e.1 (subst (IsBlock draft) (sym (first_edge draft ok b e.0 e.1 e.2 e.3))
          ((shape.blocks b h).edges.there 1 (not_stop draft ok b e.0 e.1 e.2 e.3))))
      go (inr s) (inl g) = subst IsNop (sym (now_giver draft b k h i g s)) (own_nop b h)
      go (inr s) (inr g) = inl (now_none draft b k h i g s)

  other_nop : (b k : ℕ) → IsBlock draft b → IsIn draft b k → IsNop (get_or (tables_in draft.blocks).other k 0)
  other_nop b k h i = go (cases_eq (steer_in draft b) k)
    where
      go : (steer_in draft b ≡ k) ⊎ (steer_in draft b ≡ k → ⊥)
          → IsNop (get_or (tables_in draft.blocks).other k 0)
      go (inl s) =
          let e = (shape.blocks b h).hang.steers k i (the_steer draft ok b k h i s) in
          subst IsNop (sym (other_steer draft b k e.0 e.1 e.2 h i e.3 s))
          (steered_nop e.2 (subst (IsBlock draft) (sym (second_edge draft ok b e.0 e.1 e.2 e.3))
          ((shape.blocks b h).edges.there 0 (not_stop draft ok b e.0 e.1 e.2 e.3))))
      go (inr s) = inl (other_none draft b k h i s)

  list_there : (ds : List Dest) (n : ℕ) → There draft ds → IsNop n
      → There (annotated draft) (by_number (new draft) ds ++ extra_dest n)
  list_there ds n h a j q x = grind (arith, has_append_cases, by_number, new, renamed_there, extra_there)

  -- A property of instructions, from the draft's and that of no-ops.
  by_case : (P : Instr → Type 0) → ((b k : ℕ) → IsBlock draft b → IsIn draft b k
      → P (instr_at (annotated draft) (k + shift draft b))) → ((b : ℕ) → P (nop_instr (place_of draft b)))
      → AllByRecursion P (flat (annotated draft).blocks)
  by_case P f g =
      all_instrs P (annotated draft) (λ b m h i. go b m (block_back draft b h)
      (image_case draft b m (block_back draft b h) i))
    where
      go : (b m : ℕ) → IsBlock draft b → ImageCase draft b m → P (instr_at (annotated draft) m)
      go b m h p = grind (arith, nop_is_there)

  references : References (annotated draft)
  references = record {
    dests = by_case (λ i. DestsIn (annotated draft) i.dests)
        (λ b k h i. subst (DestsIn (annotated draft)) (sym (dests_grown draft b k h i))
        (grind (arith, dests_in, by_number, new, tables_in, list_there, dests_there, refs, now_nop)))
        (λ b. tt);
    others = by_case (λ i. DestsIn (annotated draft) i.others)
        (λ b k h i. subst (DestsIn (annotated draft)) (sym (others_grown draft b k h i))
        (grind (arith, dests_in, by_number, new, tables_in, list_there, others_there, refs, other_nop)))
        (λ b. tt);
    ops = by_case (λ i. OpIn (annotated draft) i.op)
        (λ b k h i. subst (OpIn (annotated draft)) (sym (op_kept draft b k h i))
        (op_in draft (instr_at draft k).op (instr_of_all (λ i. OpIn draft i.op) draft k refs.ops
        (is_instr draft b k h i))))
        (λ b. tt);
    pads = all_blocks (λ b. AllByRecursion (λ p. DestsIn (annotated draft) p.dests) b.pads) (annotated draft)
        (λ b h. subst (AllByRecursion (λ p. DestsIn (annotated draft) p.dests)) (sym (pads_kept draft b))
        (pads_in b (block_back draft b h)));
    exits = all_blocks (λ b. ExitIn (annotated draft) b.exit) (annotated draft)
        (λ b h. subst (ExitIn (annotated draft)) (sym (exit_kept draft b))
        (exit_in b (block_back draft b h) (block_at draft b).exit refl
        (at_block (λ b. ExitIn draft b.exit) draft b refs.exits (block_back draft b h))));
  }
    where
      pads_in : (b : ℕ) → IsBlock draft b → AllByRecursion (λ p. DestsIn (annotated draft) p.dests)
          (map (grown_pad (tables_in draft.blocks)) (block_at draft b).pads)
      pads_in b h = all_map (λ p. DestsIn (annotated draft) p.dests) (grown_pad (tables_in draft.blocks))
          (block_at draft b).pads
          (all_each (λ p. DestsIn draft p.dests)
          (λ p. DestsIn (annotated draft) (renamed (tables_in draft.blocks) p.dests))
          (block_at draft b).pads
          (λ p d. subst (DestsIn (annotated draft)) (sym (same_renamed draft p.dests))
          (dests_in (annotated draft) (by_number (new draft) p.dests)
          (renamed_there p.dests (there draft p.dests d))))
          (at_block (λ b. AllByRecursion (λ p. DestsIn draft p.dests) b.pads) draft b refs.pads h))

      exit_in : (b : ℕ) → IsBlock draft b → (x : Exit) → (block_at draft b).exit ≡ x → ExitIn draft x
          → ExitIn (annotated draft) (grown_exit (tables_in draft.blocks) x)
      exit_in b h (Goto c) e i = block_on draft c i
      exit_in b h (Branch s c d) e i = (
        new_number s
            (in_image b (new draft s) h (new_inside draft b s h ((shape.blocks b h).exit.source s c d e))),
        block_on draft c i.1,
        block_on draft d i.2,
      )
      exit_in b h (Landings s ls) e i = (
        new_number s
            (in_image b (new draft s) h (new_inside draft b s h ((shape.blocks b h).exit.address s ls e))),
        all_each (IsBlock draft) (IsBlock (annotated draft)) ls (λ c j. block_on draft c j) i.1,
      )
      exit_in b h Stop e i = tt

  lists : ListsSuit (annotated draft)
  lists = record {
    dests = by_case (λ i. DestsSuit i.op i.dests) dests_at (λ b s. refl);
    others = by_case (λ i. OthersSuit i.op i.others) others_at (λ b. refl);
  }
    where
      dests_at : (b k : ℕ) → IsBlock draft b → IsIn draft b k
          → DestsSuit (instr_at (annotated draft) (k + shift draft b)).op
          (instr_at (annotated draft) (k + shift draft b)).dests
      dests_at b k h i = rw (instr_is_grown draft b k h i)
          (dests_suit (instr_at draft k).op (instr_at draft k).dests
          (renamed (tables_in draft.blocks) (instr_at draft k).dests ++ extra_dest
          (get_or (tables_in draft.blocks).now k 0))
          (instr_of_all (λ i. DestsSuit i.op i.dests) draft k ok.walkable.suited.lists.dests
          (is_instr draft b k h i)) (λ g s e. empty_grown (tables_in draft.blocks) (instr_at draft k).dests
          (get_or (tables_in draft.blocks).now k 0)
          (now_none draft b k h i (giver_gives draft b k h (is_instr draft b k h i).0 g)
          (steer_steers draft b k h (is_instr draft b k h i).0 s)) e))

      others_at : (b k : ℕ) → IsBlock draft b → IsIn draft b k
          → OthersSuit (instr_at (annotated draft) (k + shift draft b)).op
          (instr_at (annotated draft) (k + shift draft b)).others
      others_at b k h i = rw (instr_is_grown draft b k h i)
          (others_suit (instr_at draft k).op (instr_at draft k).others
          (renamed (tables_in draft.blocks) (instr_at draft k).others ++ extra_dest
          (get_or (tables_in draft.blocks).other k 0))
          (instr_of_all (λ i. OthersSuit i.op i.others) draft k ok.walkable.suited.lists.others
          (is_instr draft b k h i)) (λ s e. empty_grown (tables_in draft.blocks) (instr_at draft k).others
          (get_or (tables_in draft.blocks).other k 0)
          (other_none draft b k h i (steer_steers draft b k h (is_instr draft b k h i).0 s)) e))

  -- the image's references are there, and its lists suit
  pub suited : Suited (annotated draft)
  suited = record {
    references = references;
    lists = lists;
    landings = all_blocks (λ b. SomeLanding b.exit) (annotated draft)
        (λ b h. subst SomeLanding (sym (exit_kept draft b))
        (landing_on (tables_in draft.blocks) (block_at draft b).exit
        (at_block (λ b. SomeLanding b.exit) draft b ok.walkable.suited.landings (block_back draft b h))));
  }

  module _ (limits : WithinLimits draft) (room : MadeWithin (annotated draft)) where
    most : most_ops draft ≤ 4325376
    most = grind (arith, instrs_kept, shape, instr_limit, block_limit)

    within_block : (b k : ℕ) → IsBlock draft b → IsIn draft b k → k - first_number draft b ≤ 4325376
    within_block b k h i = omega (arith, (is_instr draft b k h i).1, most)

    note_old : (b k : ℕ) → IsBlock draft b → IsIn draft b k → NoteWithin (note_in draft b k)
    unfolding note_in
    note_old b k h i =
        let p : Passage = place_of draft b in
        let u : PlaceUpTo (most_ops draft) p = place_up draft b in
        let m = most in
        let l = within_block b k h i in
        let is : List Instr = (block_at draft b).instrs in
        let n : ℕ = k - first_number draft b in
        let s : ℕ = seq_in is n (p.low + 1) in
        let a : s ≤ p.low + 1 + n = seq_up is n (p.low + 1) in
        let w : writer_in is n (p.low + 1) p.writer ≤ 8650754 = grind (arith, writer_up) in
        for_fits (most_ops draft) p (instr_at draft k).op s (writer_in is n (p.low + 1) p.writer) u
        (omega arith) (omega arith) (omega arith)

    note_nop : (b : ℕ)
        → NoteWithin
        (Some (note_at (place_of draft b) Nop ((place_of draft b).low + 1) (place_of draft b).writer))
    note_nop b = grind (arith, place_up, most, note_fits)

    instr_old : (b k : ℕ) → IsBlock draft b → IsIn draft b k
        → InstrWithin (instr_at (annotated draft) (k + shift draft b))
    instr_old b k h i =
        let n : IsInstr (annotated draft) (k + shift draft b) =
        in_image b (k + shift draft b) h (old_inside draft b k h i) in
        let lists = instr_of_all (λ i. (length i.dests ≤ most_dests) × (length i.others ≤ most_dests))
        (annotated draft) (k + shift draft b) room.lists n in
        record {
          dests = lists.0;
          others = lists.1;
          const = subst ConstWithin (sym (op_kept draft b k h i))
              (instr_of_all (λ i. ConstWithin i.op) draft k limits.consts (is_instr draft b k h i));
          send = grind (arith, op_kept, send_within);
          note = grind (arith, instr_is_grown, note_old);
        }

    instr_nop : (b : ℕ) → InstrWithin (nop_instr (place_of draft b))
    instr_nop b = grind (arith, note_nop b)

    block_within : (b : ℕ) → IsBlock draft b → BlockWithin (block_at (annotated draft) b)
    block_within b h = record {
      wave = omega (arith, wave_kept draft b, limits.waves b h);
      pads = subst (AllByRecursion (λ p. (p.number < most_pads) × (length p.dests ≤ most_dests)))
          (sym (pads_kept draft b))
          (all_map (λ p. (p.number < most_pads) × (length p.dests ≤ most_dests))
          (grown_pad (tables_in draft.blocks)) (block_at draft b).pads
          (all_members (λ p. (p.number < most_pads)
          × (length (renamed (tables_in draft.blocks) p.dests) ≤ most_dests)) (block_at draft b).pads
          (λ p i. (
            member_of (λ p. p.number < most_pads) (block_at draft b).pads p
                (at_block (λ b. AllByRecursion (λ p. p.number < most_pads) b.pads) draft b limits.numbers h)
                i,
            omega (arith, limits.pads b p h i, renamed_length (tables_in draft.blocks) p.dests),
          ))));
      exit = grind (arith, exit_kept, exit_within, limits.landings);
    }

    pub formed : Formed (annotated draft)
    formed = record {
      arrays = subst ArraysFormed (sym (arrays_kept draft)) limits.arrays;
      few_instrs = room.instrs;
      few_blocks = omega (arith, count_kept draft, limits.blocks);
      instrs = by_case InstrWithin instr_old instr_nop;
      blocks = all_blocks BlockWithin (annotated draft) (λ b h. block_within b (block_back draft b h));
      suited = suited;
      waves = (shape_rules draft ok).waves;
      pads = all_blocks (λ b. PadsRise b.pads) (annotated draft)
          (λ b h. subst PadsRise (sym (pads_kept draft b))
          (pads_rise (tables_in draft.blocks) (block_at draft b).pads
          (at_block (λ b. PadsRise b.pads) draft b limits.rise (block_back draft b h))));
      notes = grind (arith, all_of, all_good);
    }

  pub room_made : LeavesRoom draft → MadeWithin (annotated draft)
  room_made room = record {
    instrs = omega (arith, instrs_grown draft shape.has_block, room.instrs);
    lists = by_case (λ i. (length i.dests ≤ most_dests) × (length i.others ≤ most_dests))
        (λ b k h i. subst (λ (x : Instr). (length x.dests ≤ most_dests) × (length x.others ≤ most_dests))
        (sym (instr_is_grown draft b k h i)) (grind (arith, list_length, tables_in)))
        (λ b. (omega arith, omega arith));
  }
