-- A ledger whose bounds close no negative ring: its lengths, its validity, and how it stays so as bounds come and go.
use Rattle.std.proofs.Common.{◌≡◌, ◌≤◌, [], ◌∷◌, pos, ◌+ℤ◌, ◌≤ℤ◌, ◌<ℤ◌, sym, refl, subst, inl, arith}
use Rattle.axis.specs.declared.model.Bound.{Bound}
use Rattle.axis.specs.declared.model.AxisFault.TheVariants.{NoPlacement}
use Rattle.axis.specs.Meaning.{Meaning, with_bound, Remains}
use Rattle.axis.specs.Questions.{AllYes, FirstNo}
use Rattle.axis.specs.Asks.{Valid, Asked, first_asks, put_asks}
use Rattle.axis.specs.Distance.{Open, Right, distance, base}
use Rattle.axis.proofs.Tables.{right_earliest}
use Rattle.axis.proofs.Distances.{distance_right, right_remains, right_refuses, open_push}
use Rattle.axis.proofs.Asked.{first_no_after, all_yes_append}
use Rattle.ledger.specs.Means.{Standing}

module _ (m : Meaning) (s : Standing m) where
  pub ledger_right : Right m (distance m)
  ledger_right = distance_right m s.0.paired s.0.ordered s.0.within s.1

  pub ledger_valid : Valid 90 m
  ledger_valid = record {
    paired = s.0.paired;
    ordered = s.0.ordered;
    within = s.0.within;
    few = s.0.few;
    placed = (_, (right_earliest m (distance m) ledger_right).placed);
  }

  module _ (b : Bound) (first : AllYes (first_asks 90 m b)) where
    abbrev last_asks : Asked
    last_asks = record { asks = Remains (with_bound m b); refusal = NoPlacement } ∷ []

    -- the way back is too short for the bound
    pub put_refused : (b.d +ℤ distance m b.q b.p) <ℤ pos 0 → FirstNo (put_asks 90 m b) NoPlacement
    put_refused h = first_no_after (first_asks 90 m b) last_asks NoPlacement first (inl (right_refuses m (distance m) ledger_right b first.0 h, refl))

    module _ (h : pos 0 ≤ℤ (b.d +ℤ distance m b.q b.p)) where
      pub put_stands : AllYes (put_asks 90 m b)
      put_stands = all_yes_append (first_asks 90 m b) last_asks first (right_remains m (distance m) ledger_right b first.0 h, tt)

      pub open_put : (after : Meaning) → after ≡ with_bound m b → Open after
      open_put after e = subst Open (sym e) (open_push (base m.lows m.highs) m.bounds b s.1 h)

-- an axis that holds what a ledger has room for holds enough
pub ledger_roomy : 90 ≤ 90
ledger_roomy = omega arith
