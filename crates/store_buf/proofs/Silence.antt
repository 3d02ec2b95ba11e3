-- Operations on ports that may be issued.
use Rattle.std.proofs.Common.{ℕ, ◌≡◌, ◌<◌, ◌||◌, ◌&&◌, ◌==◌, true, not, nat_le, [], ◌∷◌, Some, length, refl}
use Rattle.std.proofs.Common.{sym, inl, inr, arith}
use Rattle.std.specs.Prelude.{is_none}
use Rattle.std.proofs.lemmas.Bool.{and_parts, both_ways}
use Rattle.ws_isa.specs.declared.instr.Op.{Op}
use Rattle.ws_isa.specs.Image.{Image, instr_at, note_of, is_load_op, is_past_op}
use Rattle.df_core.specs.Core.{position_after}
use Rattle.df_core.specs.Chains.{chain_of, may_flag, next_flag}
use Rattle.df_core.proofs.Parts.Nexts.{next_is}
use Rattle.store_buf.specs.declared.order.Order.{Order}
use Rattle.store_buf.specs.Finding.{place_in}
use Rattle.store_buf.specs.Ordering.{kept_at, ready_flag}
use Rattle.store_buf.specs.Outdoors.{port_of}
use Rattle.store_buf.specs.Contents.{PortWaits}
use Rattle.store_buf.proofs.Found as F
use Rattle.store_buf.proofs.Ordered.{ready_waits}
use Rattle.ws_words.proofs.Bools.{or_comes as either}

no_load : (op : Op) (p : ℕ) → port_of op ≡ Some p → is_load_op op ≡ true → ⊥
no_load op p e l = grind (arith, both_ways)

-- one on a port that may be issued is next, and its request waits
pub port_waits : (image : Image) (o : Order) → (q : ℕ) → q < length o.kept.items
    → ready_flag image o (kept_at o q) ≡ true → (p : ℕ) → port_of (instr_at image (kept_at o q).instr).op
    ≡ Some p → PortWaits image o.kept.items (chain_of o.chain) p
port_waits image o q l ready p e =
    let w = ready_waits image o (kept_at o q) ready in
    let a = and_parts (is_none (kept_at o q).answer) (may_flag image (chain_of o.chain) (kept_at o q).wave
    (kept_at o q).instr (kept_at o q).first) ready in
    let b = and_parts ((kept_at o q).wave == o.chain.wave)
    (next_flag (chain_of o.chain) (note_of image (kept_at o q).instr)
    || (is_load_op (instr_at image (kept_at o q).instr).op && not
    (is_past_op image.arrays (instr_at image (kept_at o q).instr).op ((kept_at o q).first ∷ [])) && nat_le
    (note_of image (kept_at o q).instr).ripple (position_after o.chain.last))) a.1 in
    record {
      request = kept_at o q;
      is_kept = sym (F.here o.kept.items (place_in o.kept.items o.index) o.ok.index (kept_at o q).wave
          (kept_at o q).instr q (o.ok.index q l) l refl refl);
      waits = w.0;
      current = w.1;
      next = elim (either (next_flag (chain_of o.chain) (note_of image (kept_at o q).instr)) (is_load_op
          (instr_at image (kept_at o q).instr).op && not (is_past_op image.arrays (instr_at image (kept_at o
          q).instr).op ((kept_at o q).first ∷ [])) && nat_le (note_of image (kept_at o q).instr).ripple
          (position_after o.chain.last)) b.1) [
            | inl h ↦ next_is (chain_of o.chain) (note_of image (kept_at o q).instr) h
            | inr h ↦ absurd (let c = and_parts (is_load_op (instr_at image (kept_at o q).instr).op && not
                (is_past_op image.arrays (instr_at image (kept_at o q).instr).op ((kept_at o q).first ∷ [])))
                (nat_le (note_of image (kept_at o q).instr).ripple (position_after o.chain.last)) h in
                let d = and_parts (is_load_op (instr_at image (kept_at o q).instr).op)
                (not (is_past_op image.arrays (instr_at image (kept_at o q).instr).op
                ((kept_at o q).first ∷ []))) c.0 in
                no_load (instr_at image (kept_at o q).instr).op p e d.0)
          ];
      port_is = e;
    }
