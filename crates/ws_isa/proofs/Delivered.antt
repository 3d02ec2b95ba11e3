-- The table of operands: what comes to destinations stands there, and nothing else changes.
use Rattle.std.proofs.Common.{ℕ, suc, ◌+◌, ◌*◌, ◌≡◌, ◌<◌, ◌≤◌, List, [], ◌∷◌, length, Some, slice_index}
use Rattle.std.proofs.Common.{slice_set, refl, sym, ap, ◌∙◌, inl, inr, arith}
use Rattle.std.proofs.lemmas.Bool.{cases_eq}
use Rattle.std.proofs.lemmas.List.{get_or-set_same, get_or-set_other, length-set}
use Rattle.ws_isa.specs.declared.instr.Op.{Op}
use Rattle.ws_isa.specs.declared.instr.Dest.{Dest}
use Rattle.ws_isa.specs.Image.{Instr, Pad, Image, instr_at, block_at, ports, target, edge_of, edge_dests}
use Rattle.ws_isa.specs.Sound.{OpenSlots, HasDest, all_opened, Fresh, edge_all}
use Rattle.ws_isa.specs.Shows.{delivered, edge_by, edge_list, crossed}
use Rattle.ws_isa.proofs.Slots.{has_append_left, has_append_right, fresh_apart, fresh_right, all_opened_has}
use Rattle.ws_isa.proofs.Images.{three_ports as few}
use Rattle.ws_words.specs.Items.{nth}

-- no instruction has more than three ports
pub few_ports : (image : Image) (k : ℕ) → ports image k ≤ 3
unfolding ports
few_ports image k = few (instr_at image k).op

-- places of different slots differ
pub apart : (i j p q : ℕ) → p < 4 → q < 4 → ((i ≡ j) × (p ≡ q) → ⊥) → 4 * j + q ≡ 4 * i + p → ⊥
apart i j p q a b n e = n (grind arith)

-- destinations are ports, within the table
pub record Fits (ds : List Dest) (size : ℕ) : Type 0 where
  pub port : (j q : ℕ) → HasDest ds j q → q < 4
  pub place : (j q : ℕ) → HasDest ds j q → 4 * j + q < size

rest_fits : (d : Dest) (ds : List Dest) (size : ℕ) → Fits (d ∷ ds) size → Fits ds size
rest_fits d ds size f = record { port = λ j q h. f.port j q (inr h); place = λ j q h. f.place j q (inr h) }

set_keeps : (t : List ℕ) (p i v : ℕ) → slice_index t i ≡ v → i < length t
    → slice_index (slice_set t p v) i ≡ v
set_keeps t p i v e l = grind (arith, cases_eq, get_or-set_same, get_or-set_other)

-- the table keeps its size
pub delivered_size : (ds : List Dest) (v : ℕ) (t : List ℕ) → length (delivered ds v t) ≡ length t
delivered_size [] v t = refl
delivered_size (d ∷ ds) v t =
    grind (arith, slice_set, length-set, delivered_size ds v (slice_set t (4 * d.instr + d.port) v))

delivered_keeps : (ds : List Dest) (v : ℕ) (t : List ℕ) (i : ℕ) → slice_index t i ≡ v → i < length t
    → slice_index (delivered ds v t) i ≡ v
delivered_keeps [] v t i e l = e
delivered_keeps (d ∷ ds) v t i e l = delivered_keeps ds v (slice_set t (4 * d.instr + d.port) v) i
    (set_keeps t (4 * d.instr + d.port) i v e l) (rw (length-set t (4 * d.instr + d.port) v) l)

-- the value stands at each destination
pub delivered_lands : (ds : List Dest) (v : ℕ) (t : List ℕ) (j q : ℕ) → Fits ds (length t) → HasDest ds j q
    → slice_index (delivered ds v t) (4 * j + q) ≡ v
delivered_lands [] v t j q f h = absurd h
delivered_lands (d ∷ ds) v t j q f (inl h) =
    let l : 4 * j + q < length t = f.place j q (inl h) in
    let w : slice_index (slice_set t (4 * d.instr + d.port) v) (4 * j + q) ≡ v =
    rw (h.0, h.1) (get_or-set_same t (4 * j + q) v 0 l) in
    delivered_keeps ds v (slice_set t (4 * d.instr + d.port) v) (4 * j + q) w
    (rw (length-set t (4 * d.instr + d.port) v) l)
delivered_lands (d ∷ ds) v t j q f (inr h) =
    delivered_lands ds v (slice_set t (4 * d.instr + d.port) v) j q
    (rw (length-set t (4 * d.instr + d.port) v) (rest_fits d ds (length t) f)) h

-- nothing else changes
pub delivered_other : (ds : List Dest) (v : ℕ) (t : List ℕ) (j q size : ℕ) → Fits ds size → q < 4
    → (HasDest ds j q → ⊥) → slice_index (delivered ds v t) (4 * j + q) ≡ slice_index t (4 * j + q)
delivered_other [] v t j q size f l n = refl
delivered_other (d ∷ ds) v t j q size f l n =
    delivered_other ds v (slice_set t (4 * d.instr + d.port) v) j q size (rest_fits d ds size f) l
    (λ h. n (inr h))
    ∙ get_or-set_other t (4 * d.instr + d.port) (4 * j + q) v 0
    (apart d.instr j d.port q (f.port d.instr d.port (inl (refl, refl))) l (λ h. n (inl h)))

edge_same : (image : Image) (b r : ℕ) (i : Instr) (op : Op) → edge_by (block_at image (target image b r)).pads
    r i op ≡ edge_of image b r i op
edge_same image b r i op = grind arith

-- instructions in a row, the first of which is number k
abbrev pub InRow : Image → List Instr → ℕ → Type 0
InRow image is k = (i : ℕ) (x : Instr) → nth is i ≡ Some x → instr_at image (k + i) ≡ x

module _ (image : Image) (b r : ℕ) where
  -- the pads of the block to which the edge at r leads
  abbrev pub pads : List Pad
  pads = (block_at image (target image b r)).pads

  row_head : (x : Instr) (is : List Instr) (k : ℕ) → InRow image (x ∷ is) k
      → edge_list pads r x ≡ edge_dests image b r k
  unfolding edge_dests
  row_head x is k h =
      let e : instr_at image (k + 0) ≡ x = h 0 x refl in
      let z : k + 0 ≡ k = omega arith in
      let f : instr_at image k ≡ x = rw z at e in
      edge_same image b r x x.op ∙ ap (λ (i : Instr). edge_of image b r i i.op) (sym f)

  row_rest : (x : Instr) (is : List Instr) (k : ℕ) → InRow image (x ∷ is) k → InRow image is (suc k)
  row_rest x is k h i y e = let z : suc k + i ≡ k + suc i = omega arith in rw z (h (suc i) y e)

  -- the table keeps its size when an edge is crossed
  pub crossed_size : (is : List Instr) (k : ℕ) (results t : List ℕ) → length (crossed pads r is k results t)
      ≡ length t
  crossed_size [] k results t = refl
  crossed_size (x ∷ is) k results t =
      crossed_size is (suc k) results (delivered (edge_list pads r x) (slice_index results k) t)
      ∙ delivered_size (edge_list pads r x) (slice_index results k) t

  part_fits : (k n : ℕ) (size : ℕ) → Fits (edge_all image b r k (suc n)) size
      → Fits (edge_dests image b r k) size × Fits (edge_all image b r (suc k) n) size
  part_fits k n size f = (
    record {
      port = λ j q h. f.port j q (has_append_left (edge_dests image b r k) _ j q h);
      place = λ j q h. f.place j q (has_append_left (edge_dests image b r k) _ j q h);
    },
    record {
      port = λ j q h. f.port j q (has_append_right (edge_dests image b r k) _ j q h);
      place = λ j q h. f.place j q (has_append_right (edge_dests image b r k) _ j q h);
    },
  )

  -- what no steer and no send opens on the edge stays
  pub crossed_other : (is : List Instr) (k : ℕ) (results t : List ℕ) (j q size : ℕ) → InRow image is k
      → Fits (edge_all image b r k (length is)) size → q < 4 → (HasDest (edge_all image b r k (length is)) j q
      → ⊥) →
      slice_index (crossed pads r is k results t) (4 * j + q) ≡ slice_index t (4 * j + q)
  crossed_other [] k results t j q size row f l n = refl
  crossed_other (x ∷ is) k results t j q size row f l n =
      let fs = part_fits k (length is) size f in
      let e : edge_list pads r x ≡ edge_dests image b r k = row_head x is k row in
      crossed_other is (suc k) results (delivered (edge_list pads r x) (slice_index results k) t) j q size
      (row_rest x is k row) fs.1 l (λ h. n (has_append_right (edge_dests image b r k) _ j q h))
      ∙ rw e (delivered_other (edge_dests image b r k) (slice_index results k) t j q size fs.0 l
      (λ h. n (has_append_left (edge_dests image b r k) _ j q h)))

  -- the value of a steer or send comes to what it opens on the edge
  pub crossed_lands : (is : List Instr) (k : ℕ) (results t : List ℕ) (o : OpenSlots) (m j q : ℕ)
      → InRow image is k → Fits (edge_all image b r k (length is)) (length t)
      → Fresh (edge_all image b r k (length is)) o →
      k ≤ m → m < k + length is → HasDest (edge_dests image b r m) j q
      → slice_index (crossed pads r is k results t) (4 * j + q) ≡ slice_index results m
  crossed_lands [] k results t o m j q row f fr a c h = absurd (omega arith)
  crossed_lands (x ∷ is) k results t o m j q row f fr a c h =
      let fs = part_fits k (length is) (length t) f in
      let e : edge_list pads r x ≡ edge_dests image b r k = row_head x is k row in
      let s : length (delivered (edge_list pads r x) (slice_index results k) t) ≡ length t =
      delivered_size (edge_list pads r x) (slice_index results k) t in
      let fr' : Fresh (edge_all image b r (suc k) (length is)) (all_opened (edge_dests image b r k) o) =
      fresh_right (edge_dests image b r k) (edge_all image b r (suc k) (length is)) o fr in
      elim (cases_eq m k) [
        | inl same ↦ (let h' : HasDest (edge_dests image b r k) j q = rw same at h in
            crossed_other is (suc k) results (delivered (edge_list pads r x) (slice_index results k) t) j q
            (length t) (row_rest x is k row) fs.1 (fs.0.port j q h')
            (fresh_apart (edge_all image b r (suc k) (length is)) (all_opened (edge_dests image b r k) o) j q
            fr' (all_opened_has (edge_dests image b r k) o j q h'))
            ∙ rw (e, same) (delivered_lands (edge_dests image b r k) (slice_index results k) t j q fs.0 h'))
        | inr other ↦ crossed_lands is (suc k) results (delivered (edge_list pads r x) (slice_index results k)
            t) (all_opened (edge_dests image b r k) o) m j q (row_rest x is k row) (rw s fs.1) fr'
            (omega arith) (omega arith) h
      ]
