-- The graph with a short branch and a call keeps what the passes ask for.
use Rattle.std.proofs.Common.{ℕ, zero, suc, ◌≡◌, ◌<◌, rules, refl, sym, subst, arith}
use Rattle.cfg_core.specs.Graph.{Term, Var, Branch, Spot, spots, spot_at, block_at, no_spot, proc_at}
use Rattle.cfg_core.specs.Rules.{IsGraph}
use Rattle.cfg_core.specs.Shape.{OnlyFrom, BranchesApart, ArmsAlone}
use Rattle.cfg_core.proofs.Forward.{tested}
use Rattle.call_gen.specs.Keeps.{NoSend, HasNoSend}
use Rattle.pass_tests.specs.Samples.{doubles}
use Rattle.cfg_core.proofs.Spots.{each_at}

pub doubles_kept : IsGraph doubles
unfolding spot_at proc_at
doubles_kept = record {
  numbers = record { some_proc = search rules; procs = search rules; blocks = search rules };
  landings = search rules;
  earlier = search rules;
  call_ticks = search rules;
  cycles = tested doubles refl;
  bare = search rules;
}

pub doubles_sends_nothing : HasNoSend doubles
unfolding spot_at no_spot
doubles_sends_nothing b = each_at (λ (s : Spot). NoSend s.block.exit) (spots doubles) no_spot
    (tt, (tt, (tt, (tt, (tt, (tt, tt)))))) tt b

some_from : OnlyFrom doubles 1 2
unfolding spot_at no_spot
some_from zero e = absurd e
some_from (suc zero) e = refl
some_from (suc (suc zero)) e = absurd (omega (arith, e))
some_from (suc (suc (suc zero))) e = absurd (omega (arith, e))
some_from (suc (suc (suc (suc zero)))) e = absurd (omega (arith, e))
some_from (suc (suc (suc (suc (suc zero))))) e = absurd e
some_from (suc (suc (suc (suc (suc (suc b)))))) e = absurd e

none_from : OnlyFrom doubles 1 3
unfolding spot_at no_spot
none_from zero e = absurd e
none_from (suc zero) e = refl
none_from (suc (suc zero)) e = absurd (omega (arith, e))
none_from (suc (suc (suc zero))) e = absurd (omega (arith, e))
none_from (suc (suc (suc (suc zero)))) e = absurd (omega (arith, e))
none_from (suc (suc (suc (suc (suc zero))))) e = absurd e
none_from (suc (suc (suc (suc (suc (suc b)))))) e = absurd e

arms_of : (t u : Term) (b c x y : ℕ) → Branch t b c ≡ Branch u x y → (x ≡ b) × (y ≡ c)
arms_of t u b c x y e = (cc, cc)

pub doubles_alone : ArmsAlone doubles
unfolding spot_at no_spot
doubles_alone = record { apart = apart; ahead = ahead }
  where
    apart : (a : ℕ) (t : Term) (b c : ℕ) → (block_at doubles a).exit ≡ Branch t b c
        → BranchesApart doubles a b c
    apart zero t b c e = absurd (cc)
    apart (suc zero) t b c e =
        let r = arms_of (Var 0) t 2 3 b c e in
        subst (λ z. BranchesApart doubles 1 z c) (sym r.0) (subst (λ z. BranchesApart doubles 1 2 z) (sym r.1)
        (record { differ = λ q. omega (arith, q); first = some_from; second = none_from }))
    apart (suc (suc zero)) t b c e = absurd (cc)
    apart (suc (suc (suc zero))) t b c e = absurd (cc)
    apart (suc (suc (suc (suc zero)))) t b c e = absurd (cc)
    apart (suc (suc (suc (suc (suc zero))))) t b c e = absurd (cc)
    apart (suc (suc (suc (suc (suc (suc a)))))) t b c e = absurd (cc)

    ahead : (a : ℕ) (t : Term) (b c : ℕ) → (block_at doubles a).exit ≡ Branch t b c → (a < b) × (a < c)
    ahead zero t b c e = absurd (cc)
    ahead (suc zero) t b c e = let r = arms_of (Var 0) t 2 3 b c e in let p : b ≡ 2 = r.0 in let q : c ≡ 3 =
        r.1 in (omega (arith, p), omega (arith, q))
    ahead (suc (suc zero)) t b c e = absurd (cc)
    ahead (suc (suc (suc zero))) t b c e = absurd (cc)
    ahead (suc (suc (suc (suc zero)))) t b c e = absurd (cc)
    ahead (suc (suc (suc (suc (suc zero))))) t b c e = absurd (cc)
    ahead (suc (suc (suc (suc (suc (suc a)))))) t b c e = absurd (cc)
