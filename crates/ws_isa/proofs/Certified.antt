-- A certificate gives the slot rules, said of all paths.
use Rattle.std.proofs.Common.{ℕ, suc, ◌≡◌, ◌<◌, ◌≤◌, Bool, true, List, [], ◌∷◌, refl, sym, ap, ◌∙◌, arith}
use Rattle.ws_isa.specs.declared.instr.Dest.{Dest}
use Rattle.ws_isa.specs.Image.{Image, first_number, is_first, now_dests}
use Rattle.ws_isa.specs.Sound.{OpenSlots, opened, all_opened, Fresh, closed, opens_at, AdvancesOpen, Opens}
use Rattle.ws_isa.specs.Sound.{begin, turn, edge, TurnSlots, EndSlots, EdgeInto, SlotRules}
use Rattle.ws_isa.proofs.SlotCert.{Alike, SlotCert}

opened_alike : (d : Dest) (o p : OpenSlots) → Alike o p → Alike (opened d o) (opened d p)
opened_alike d o p a j q = rw (a j q) refl

-- the same slots are open after the same destinations
pub all_opened_alike : (ds : List Dest) (o p : OpenSlots) → Alike o p
    → Alike (all_opened ds o) (all_opened ds p)
all_opened_alike [] o p a = a
all_opened_alike (d ∷ ds) o p a =
    grind (arith, opened_alike, all_opened_alike ds (opened d o) (opened d p) (opened_alike d o p a))

pub closed_alike : (k : ℕ) (o p : OpenSlots) → Alike o p → Alike (closed k o) (closed k p)
closed_alike k o p a j q = rw (a j q) refl

pub fresh_alike : (ds : List Dest) (o p : OpenSlots) → Alike o p → Fresh ds p → Fresh ds o
fresh_alike [] o p a f = tt
fresh_alike (d ∷ ds) o p a f =
    (a d.instr d.port ∙ f.0, fresh_alike ds (opened d o) (opened d p) (opened_alike d o p a) f.1)

advances_alike : (image : Image) (b : ℕ) (o p : OpenSlots) → Alike o p → AdvancesOpen image b p
    → AdvancesOpen image b o
advances_alike image b o p a h j q = (grind arith)

pub first_is : (image : Image) → is_first image 1 ≡ true
unfolding is_first
first_is image = refl

module _ (image : Image) (reached : ℕ → Bool) (open_at : ℕ → ℕ → OpenSlots)
    (cert : SlotCert image reached open_at) where
  pub record Covered (b k : ℕ) (o : OpenSlots) : Type 0 where
    pub arrives : reached b ≡ true
    pub low : first_number image b ≤ k
    pub alike : Alike o (open_at b k)

  -- every path is covered
  pub covered : (b k : ℕ) (o : OpenSlots) → Opens image b k o → Covered b k o
  covered b k o begin = grind arith
  covered b k o (turn {b = c} {k = l} {o = p} path w) =
      grind (arith, all_opened_alike, closed_alike, cert.turn_open, covered c l p path)
  covered b k o (edge {b = c} {k = l} {o = p} path at s n) =
      grind (arith, cert.edge_reached, all_opened_alike, cert.edge_open, covered c l p path)

  at_end : (b : ℕ) (o : OpenSlots) → Opens image b (first_number image (suc b)) o
      → Alike o (open_at b (first_number image (suc b)))
  at_end b o path = (covered b (first_number image (suc b)) o path).alike

  arrives : (b k : ℕ) (o : OpenSlots) → Opens image b k o → reached b ≡ true
  arrives b k o path = (covered b k o path).arrives

  after_edge : (c b : ℕ) (o : OpenSlots) → EdgeInto image c b o → Alike o (open_at b (first_number image b))
  after_edge c b o e j q = ap (λ (p : OpenSlots). p j q) (sym e.opens)
      ∙ all_opened_alike (opens_at image c e.choice) e.before (open_at c (first_number image (suc c)))
      (at_end c e.before e.path) j q
      ∙ cert.edge_open c e.choice (arrives c (first_number image (suc c)) e.before e.path) e.goes_on j q
      ∙ ap (λ (n : ℕ). open_at n (first_number image n) j q) e.to

  entered : (c b : ℕ) (o : OpenSlots) → EdgeInto image c b o → reached b ≡ true
  entered c b o e = grind (arith, e.to, cert.edge_reached, arrives, e.before)

  turn_slots : (b k : ℕ) (o : OpenSlots) → Opens image b k o → k < first_number image (suc b)
      → TurnSlots image k o
  turn_slots b k o path w = let c : Covered b k o = covered b k o path in
      record {
        has_all = λ q l. c.alike k q ∙ cert.has_all b k c.arrives (c.low, w) q l;
        fresh = fresh_alike (now_dests image k) (closed k o) (closed k (open_at b k))
            (closed_alike k o (open_at b k) c.alike) (cert.fresh b k c.arrives (c.low, w));
      }

  end_slots : (b : ℕ) (o : OpenSlots) → Opens image b (first_number image (suc b)) o → EndSlots image b o
  end_slots b o path = let r : reached b ≡ true = arrives b (first_number image (suc b)) o path in
      record {
        edges = λ s n. fresh_alike (opens_at image b n) o (open_at b (first_number image (suc b)))
            (at_end b o path) (cert.edges b n r s);
        stop = λ s j q. at_end b o path j q ∙ cert.stop b r s j q;
      }

  -- a certificate gives the rules on slots
  pub slot_rules : SlotRules image
  slot_rules = record {
    start = cert.start_fresh;
    begins = grind (arith, advances_alike, cert.first_open, cert.start, first_is);
    turns = turn_slots;
    ends = end_slots;
    crossing = λ c b o e f. advances_alike image b o (open_at b (first_number image b)) (after_edge c b o e)
        (cert.first_open b (entered c b o e) f);
    pending = λ c d b o p e f i j q. after_edge c b o e j q ∙ sym (after_edge d b p f j q);
  }
