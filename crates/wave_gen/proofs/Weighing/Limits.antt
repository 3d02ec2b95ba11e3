-- How far the numbers of a draft of a graph go.
use Rattle.std.proofs.Common.{ℕ, zero, suc, ◌+◌, ◌≡◌, ◌<◌, ◌≤◌, ◌||◌, Bool, true, false, cond, List, [], ◌∷◌}
use Rattle.std.proofs.Common.{length, map, Some, refl, sym, ap, ◌∙◌, subst, inl, inr, arith, ne_eqb}
use Rattle.std.proofs.lemmas.Bool.{cases_Bool, cases_eq}
use Rattle.std.specs.List.{AllByRecursion}
use Rattle.ws_isa.specs.declared.instr.Op.TheVariants.{Send}
use Rattle.ws_isa.specs.Image as image
use Rattle.ws_isa.specs.Image.{Image, Block, Pad, flat, instr_at, is_stop, stops, target, IsIn, IsBlock}
use Rattle.ws_isa.specs.Formed.{ConstWithin, RiseFrom, PadsRise}
use Rattle.ws_isa.specs.Sound.{HasPad}
use Rattle.ws_isa.specs.Open.{OpenToNotes}
use Rattle.cfg_core.specs.Graph as graph
use Rattle.cfg_core.specs.Graph.{Term, Cell, Flip, Not, Neg, Binary, Graph, Spot, no_spot, spots}
use Rattle.cfg_core.specs.Graph.{spot_at, block_at}
use Rattle.cfg_core.specs.Rules as rules
use Rattle.cfg_core.proofs.Pigeons.{pigeons}
use Rattle.wave_cut.specs.Cut.{Cut}
use Rattle.wave_gen.specs.Plans.{Plan, HowLeft, pulse, plan_at, begins, pads_of, exit_of, source_of}
use Rattle.wave_gen.specs.Plans.{draft_of}
use Rattle.wave_gen.proofs.Planning.Planned.{PlansAre}
use Rattle.wave_gen.specs.Gen.{top_word, gen_ops}
use Rattle.wave_gen.specs.Words.{TermOfWords, OpOfWords, ExitOfWords, GraphOfWords, arrays_of}
use Rattle.wave_gen.specs.Listing.{gen_exit, landings_of, in_some, has_pads, listing, place_of, width_of}
use Rattle.wave_gen.specs.Listing.{plans_of, needed, graph_draft}
use Rattle.wave_gen.specs.Limits.{BringsAtMost, LandsAtMost, KeepsLimits}
use Rattle.wave_gen.specs.Fitting.{Fits}
use Rattle.wave_gen.proofs.Walking.Tied.{all_at}
use Rattle.wave_gen.proofs.Drawing.Number.{block_at_is, is_block, blocks_count}
use Rattle.wave_gen.proofs.Drawing.Edges.{exit_is}
use Rattle.wave_gen.proofs.Drawing.AllInstrs.{all_instrs, all_blocks}
use Rattle.wave_gen.proofs.Drawing.OpsIn.{Plain, TermHas, OpHas, ExitHas}
use Rattle.wave_gen.proofs.Drawing.OpenDrafts.{op_has}
use Rattle.wave_gen.proofs.OfGraphs.GraphOpen.{BlocksHave, plan_items, plan_kind, graph_open}
use Rattle.wave_gen.proofs.Walking.WordsStay.{block_words}
use Rattle.wave_gen.proofs.OfGraphs.Chains.{listed_once, listed_there}
use Rattle.wave_gen.proofs.OfGraphs.Turned.{waving}
use Rattle.wave_gen.proofs.OfGraphs.PlanFacts.{as_many}
use Rattle.wave_gen.proofs.OfGraphs.PlansGiving.{some_of, found, plans_give}
use Rattle.wave_gen.proofs.OfGraphs.PlansMade.{plans_are}
use Rattle.wave_gen.proofs.OfGraphs.PlansOpening.{plans_open}
use Rattle.wave_gen.proofs.Weighing.Counts.{instrs_few}
use Rattle.ws_words.specs.Items.{nth, or_else, In, Distinct}
use Rattle.cfg_core.specs.Weights.{first_block}

-- constants
plain_const : Plain ConstWithin
unfolding top_word
plain_const = grind arith

term_consts : (t : Term) → TermOfWords t → TermHas ConstWithin t
term_consts (Cell a t) h = (tt, term_consts t h)
term_consts (Flip t) h = term_consts t h
term_consts (Not t) h = term_consts t h
term_consts (Neg t) h = term_consts t h
term_consts (Binary op a b) h = (term_consts a h.0, term_consts b h.1)
term_consts t h = grind arith

terms_consts : (ts : List Term) → AllByRecursion TermOfWords ts → AllByRecursion (TermHas ConstWithin) ts
terms_consts [] h = tt
terms_consts (t ∷ ts) h = (term_consts t h.0, terms_consts ts h.1)

op_consts : (op : graph.Op) → OpOfWords op → OpHas ConstWithin op
op_consts op h = grind (arith, term_consts)

ops_consts : (ops : List graph.Op) → AllByRecursion OpOfWords ops → AllByRecursion (OpHas ConstWithin) ops
ops_consts [] h = tt
ops_consts (op ∷ ops) h = (op_consts op h.0, ops_consts ops h.1)

exit_consts : (exit : graph.Exit) → ExitOfWords exit → ExitHas ConstWithin exit
exit_consts (graph.Goto b) h = tt
exit_consts (graph.Branch t a b) h = term_consts t h
exit_consts (graph.Call r f ts back) h = tt
exit_consts (graph.Return t) h = term_consts t h
exit_consts (graph.Send t ts ls) h = (term_consts t h.0, terms_consts ts h.1)
exit_consts graph.Stop h = tt

-- pads
pads_rise : (first : ℕ → ℕ) (b n : ℕ) (entries xs : List ℕ) → RiseFrom n (pads_of first b (suc n) entries xs)
pads_rise first b n entries [] = tt
pads_rise first b n entries (x ∷ xs) = (omega arith, pads_rise first b (suc n) entries xs)

pads_rising : (first : ℕ → ℕ) (b n : ℕ) (entries xs : List ℕ) → PadsRise (pads_of first b n entries xs)
pads_rising first b n entries [] = tt
pads_rising first b n entries (x ∷ xs) = pads_rise first b n entries xs

pads_below : (first : ℕ → ℕ) (b i n : ℕ) (entries xs : List ℕ) → i + length xs ≤ suc n
    → AllByRecursion (λ p. p.number ≤ n) (pads_of first b i entries xs)
pads_below first b i n entries [] l = tt
pads_below first b i n entries (x ∷ xs) l =
    grind (arith, pads_below first b (suc i) n entries xs (omega arith))

has_below : (n p : ℕ) (ps : List Pad) → AllByRecursion (λ q. q.number ≤ n) ps → HasPad ps p → p ≤ n
has_below n p [] a h = absurd h
has_below n p (q ∷ ps) a (inl e) = (let l : q.number ≤ n = a.0 in omega (arith, l, e))
has_below n p (q ∷ ps) a (inr h) = has_below n p ps a.1 h

map_length : (f : ℕ → ℕ) (xs : List ℕ) → length (map f xs) ≡ length xs
map_length f [] = refl
map_length f (x ∷ xs) = ap suc (map_length f xs)

-- numbers that a list holds once each stand apart
apart_of : (xs : List ℕ) → ((i j b : ℕ) → nth xs i ≡ Some b → nth xs j ≡ Some b → i ≡ j) → Distinct xs
apart_of [] h = tt
apart_of (x ∷ xs) h = (
  λ i. (let r = place x xs i in let z : 0 ≡ suc r.0 = h 0 (suc r.0) x refl r.1 in omega (arith, z)),
  apart_of xs (λ i j b e f. (let z : suc i ≡ suc j = h (suc i) (suc j) b e f in omega (arith, z))),
)
  where
    place : (y : ℕ) (ys : List ℕ) → In y ys → (i : ℕ) × (nth ys i ≡ Some y)
    place y [] i = absurd i
    place y (z ∷ ys) (inl e) = (0, ap (λ (w : ℕ). Some w) (sym e))
    place y (z ∷ ys) (inr i) = let r = place y ys i in (suc r.0, r.1)

nth_of : (xs : List ℕ) (x : ℕ) → In x xs → (i : ℕ) × (nth xs i ≡ Some x)
nth_of [] x i = absurd i
nth_of (y ∷ xs) x (inl e) = (0, ap (λ (w : ℕ). Some w) (sym e))
nth_of (y ∷ xs) x (inr i) = let r = nth_of xs x i in (suc r.0, r.1)

module _ (g : Graph) (live : ℕ → ℕ → Bool) (cut : Cut) (fit : Fits g live cut) where
  abbrev ps : List Plan
  ps = plans_of g live cut

  abbrev I : Image
  I = draft_of (arrays_of g) (width_of g) (plans_of g live cut)

  abbrev Is : ℕ → Type 0
  Is b = (1 ≤ b) × (b ≤ length (plans_of g live cut))

  abbrev A : PlansAre (plans_of g live cut) (width_of g) (λ n x. needed g live cut n x ≡ true)
  A = plans_are g live cut fit

  listed_few : length (listing g cut) ≤ length (spots g)
  listed_few =
      let w = waving g live cut fit in
      pigeons (listing g cut) (length (spots g))
      (apart_of (listing g cut)
      (λ i j b e f. sym (listed_once (length (spots g)) _ _ (length cut.heads) w i b e)
      ∙ listed_once (length (spots g)) _ _ (length cut.heads) w j b f))
      (λ a i. (let r = nth_of (listing g cut) a i in listed_there (length (spots g)) _ _ (length cut.heads) w
      r.0 a r.1))

  count : length I.blocks ≡ length (plans_of g live cut)
  unfolding draft_of
  count = blocks_count (arrays_of g) (width_of g) (plans_of g live cut) 1 (length (plans_of g live cut))

  -- waves rise by at most one
  wave_few : (b : ℕ) → suc b ≤ length (plans_of g live cut) → (plan_at (plans_of g live cut) (suc b)).wave
      ≤ suc b
  wave_few zero l = (let e : (plan_at ps 1).wave ≡ 1 = A.first_wave in omega (arith, e))
  wave_few (suc b) l =
      let i : (plan_at ps (suc b)).wave ≤ suc b = wave_few b (omega (arith, l)) in
      elim (cases_Bool (plan_at ps (suc (suc b))).first) [
        | inl f ↦ (let e : (plan_at ps (suc (suc b))).wave ≡ suc (plan_at ps (suc b)).wave = A.rises b l f in
            omega (arith, e, i))
        | inr f ↦ (let e : (plan_at ps (suc (suc b))).wave ≡ (plan_at ps (suc b)).wave = A.stays b l f in
            omega (arith, e, i))
      ]

  waves : (b : ℕ) → IsBlock I b → (image.block_at I b).wave ≤ length I.blocks
  waves zero h = absurd (let l : 1 ≤ 0 = h.0 in omega (arith, l))
  waves (suc b) h =
      let s : Is (suc b) = is_block (arrays_of g) (width_of g) (plans_of g live cut) (suc b) h in
      let e : (image.block_at I (suc b)).wave ≡ (plan_at ps (suc b)).wave =
      ap (λ (k : Block). k.wave) (block_at_is (arrays_of g) (width_of g) (plans_of g live cut) (suc b)
      s) in
      let l : (plan_at ps (suc b)).wave ≤ suc b = wave_few b s.1 in
      omega (arith, e, l, h.1)

  consts : GraphOfWords g → AllByRecursion (λ i. ConstWithin i.op) (flat I.blocks)
  consts words =
      let has : BlocksHave g live cut fit ConstWithin plain_const = record {
        ops = λ b l. ops_consts (block_at g b).ops (block_words g words b).0;
        exits = λ b l. exit_consts (block_at g b).exit (block_words g words b).1;
      } in
      all_instrs (arrays_of g) (width_of g) (plans_of g live cut) (λ i. ConstWithin i.op)
      (op_has (arrays_of g) (width_of g) (plans_of g live cut) (λ n x. needed g live cut n x ≡ true)
      (plans_are g live cut fit) (plans_give g live cut fit) (plans_open g live cut fit) ConstWithin tt tt
      (plan_items g live cut fit ConstWithin plain_const has)
      (plan_kind g live cut fit ConstWithin plain_const has))

  rise : AllByRecursion (λ b. PadsRise b.pads) I.blocks
  rise = all_blocks (arrays_of g) (width_of g) (plans_of g live cut) (λ b. PadsRise b.pads) (λ b h.
      (let s : Is b = is_block (arrays_of g) (width_of g) (plans_of g live cut) b h in
      subst (λ (k : Block). PadsRise k.pads)
      (sym (block_at_is (arrays_of g) (width_of g) (plans_of g live cut) b s))
      (pads_rising (begins (width_of g) ps) b 0 (plan_at ps b).entries (plan_at ps b).pads)))

  lands : (b : ℕ) → b < length (spots g) → rules.Lands g (block_at g b).exit
  unfolding spot_at
  lands b l = all_at (λ s. rules.Lands g s.block.exit) (spots g) no_spot b fit.graph.landings l

  -- a block with pads names at most as many variables as a Send has values
  landing_of_send : (n b c : ℕ) → BringsAtMost n g → b < length (spots g)
      → In c (landings_of (block_at g b).exit) → length (block_at g c).named ≤ n
  landing_of_send n b c h l i = go (block_at g b).exit refl (lands b l) i
    where
      each : (ls : List ℕ) (m : ℕ) → AllByRecursion (λ r. length (block_at g r).named ≡ m) ls → In c ls
          → length (block_at g c).named ≡ m
      each [] m a j = absurd j
      each (r ∷ ls) m a (inl e) = ap (λ z. length (block_at g z).named) e ∙ a.0
      each (r ∷ ls) m a (inr j) = each ls m a.1 j

      go : (exit : graph.Exit) → (block_at g b).exit ≡ exit → rules.Lands g exit → In c (landings_of exit)
          → length (block_at g c).named ≤ n
      go (graph.Send t ts ls) e a j = let z : length (block_at g c).named ≡ length ts =
          each ls (length ts) a.1 j in let u : length ts ≤ n = h.sends b t ts ls e in omega (arith, z, u)
      go (graph.Goto x) e a j = absurd j
      go (graph.Branch t x y) e a j = absurd j
      go (graph.Call r f ts back) e a j = absurd j
      go (graph.Return t) e a j = absurd j
      go graph.Stop e a j = absurd j

  there_with : (ss : List Spot) (b c : ℕ) → In c (landings_of (or_else (nth ss b) no_spot).block.exit)
      → b < length ss
  unfolding no_spot
  there_with (s ∷ ss) (suc b) c i = let l : b < length ss = there_with ss b c i in omega (arith, l)
  there_with ss b c i = grind arith

  some_send : (x : ℕ) → in_some landings_of (spots g) x ≡ true → (b : ℕ) × (b < length (spots g))
      × In x (landings_of (block_at g b).exit)
  unfolding spot_at
  some_send x e = let r = some_of landings_of (spots g) x e in (r.0, there_with (spots g) r.0 x r.1, r.1)

  named_few : (n c : ℕ) → BringsAtMost n g → has_pads g c ≡ true → length (block_at g c).named ≤ n
  named_few n c h e = elim (cases_eq c (first_block g)) [
    | inl q ↦ (let u : length (block_at g (first_block g)).named ≤ n = h.start in
        let z : length (block_at g c).named ≡ length (block_at g (first_block g)).named =
        ap (λ r. length (block_at g r).named) q in omega (arith, u, z))
    | inr d ↦
        (let r = some_send c (subst (λ v. (v || in_some landings_of (spots g) c) ≡ true)
        (ne_eqb c (first_block g) d) e) in landing_of_send n r.0 c h r.1 r.2)
  ]

  plan_pads : (n c : ℕ) → BringsAtMost n g → (v : Bool) → has_pads g c ≡ v
      → length (cond v (pulse ∷ map suc (block_at g c).named) []) ≤ suc n
  plan_pads n c h true e = let u : length (block_at g c).named ≤ n = named_few n c h e in
      let z : length (map suc (block_at g c).named) ≡ length (block_at g c).named =
      map_length suc (block_at g c).named in omega (arith, u, z)
  plan_pads n c h false e = omega arith

  pads_at : (n : ℕ) → BringsAtMost n g → (b : ℕ) → IsBlock I b → AllByRecursion (λ p. p.number ≤ n)
      (image.block_at I b).pads
  pads_at n h b hb =
      let s : Is b = is_block (arrays_of g) (width_of g) (plans_of g live cut) b hb in
      let r = found g live cut fit b s in
      let z : length (plan_at ps b).pads ≤ suc n = subst (λ (p : Plan). length p.pads ≤ suc n) (sym r.2)
      (plan_pads n r.0 h (has_pads g r.0) refl) in
      subst (λ (k : Block). AllByRecursion (λ p. p.number ≤ n) k.pads)
      (sym (block_at_is (arrays_of g) (width_of g) (plans_of g live cut) b s))
      (pads_below (begins (width_of g) ps) b 0 n (plan_at ps b).entries (plan_at ps b).pads
      (omega (arith, z)))

  landed : (k : ℕ) (exit : graph.Exit) (e : HowLeft) (s : ℕ) (ls : List ℕ)
      → (gen_exit (place_of g cut) k exit).exit ≡ e → exit_of s e ≡ image.Landings s ls
      → (t : Term) × (ts : List Term) × (ms : List ℕ) × (exit ≡ graph.Send t ts ms)
      × (ls ≡ map (place_of g cut) ms)
  landed k exit e s ls q f = grind arith

  landings : (n : ℕ) → LandsAtMost n g → (b s : ℕ) (ls : List ℕ) → IsBlock I b
      → (image.block_at I b).exit ≡ image.Landings s ls → length ls ≤ n
  landings n h b s ls hb e =
      let i : Is b = is_block (arrays_of g) (width_of g) (plans_of g live cut) b hb in
      let r = found g live cut fit b i in
      let q = exit_is (arrays_of g) (width_of g) (plans_of g live cut) (λ n x. needed g live cut n x ≡ true)
      (plans_are g live cut fit) b i in
      let f : exit_of (source_of (width_of g) ps b) (plan_at ps b).exit ≡ image.Landings s ls = sym q ∙ e in
      let m : exit_of s (plan_at ps b).exit ≡ image.Landings s ls = same_source (plan_at ps b).exit
      (source_of (width_of g) ps b) s ls f in
      let x = landed (gen_ops (width_of g) (block_at g r.0).ops).next (block_at g r.0).exit
      (plan_at ps b).exit s ls (ap (λ (p : Plan). p.exit) (sym r.2)) m in
      let u : length x.2 ≤ n = h r.0 x.0 x.1 x.2 x.3 in
      let w : length ls ≡ length x.2 = ap length x.4 ∙ map_length (place_of g cut) x.2 in
      omega (arith, u, w)
    where
      same_source : (e : HowLeft) (m s : ℕ) (ls : List ℕ) → exit_of m e ≡ image.Landings s ls
          → exit_of s e ≡ image.Landings s ls
      same_source e m s ls f = grind arith

  sends_at : OpenToNotes I → (n : ℕ) → BringsAtMost n g → (b k p : ℕ) → IsBlock I b → IsIn I b k
      → (instr_at I k).op ≡ Send p → p ≤ n
  unfolding stops
  sends_at o n h b k p hb i e =
      let w = o.walkable in
      let x = (w.shape.blocks b hb).hang.sends k p i e in
      let runs : stops I b ≡ false = ap is_stop x.2 in
      has_below n p (image.block_at I (target I b 0)).pads
      (pads_at n h (target I b 0) ((w.shape.blocks b hb).edges.there 0 runs))
      ((w.shape.blocks b hb).hang.landing_pad k p 0 i e)

  limits : OpenToNotes I → KeepsLimits g live I
  limits o = record {
    instrs = instrs_few g live cut fit;
    blocks = (let a : length (plans_of g live cut) ≡ length (listing g cut) = as_many g live cut fit in
        omega (arith, count, a, listed_few));
    waves = waves;
    consts = consts;
    rise = rise;
    pads = λ n h. all_blocks (arrays_of g) (width_of g) (plans_of g live cut)
        (λ b. AllByRecursion (λ p. p.number ≤ n) b.pads) (pads_at n h);
    sends = sends_at o;
    landings = landings;
  }

-- the numbers of a graph's draft
pub graph_limits : (g : Graph) (live : ℕ → ℕ → Bool) (cut : Cut) → Fits g live cut
    → KeepsLimits g live (graph_draft g (arrays_of g) live cut)
unfolding graph_draft
graph_limits g live cut fit = limits g live cut fit (graph_open g live cut fit)
