-- What an expression without fault comes to: a value of the length worked out before, or stop S1. Assumes nothing.
use Rattle.std.specs.Prelude.{◌≡◌, refl, ℕ, ◌%◌, ◌^◌, ◌≤◌, ◌<◌}
use Rattle.std.proofs.Common.{◌∙◌, mod-lt, le-leb, lt-ltb, pow_pos}
use Rattle.language.specs.Meaning.{Answer, Stuck, after, is, stops, worth_or}
use Rattle.language.specs.declared.stops.Stop.TheVariants.{OutsideBounds}
use Rattle.language.specs.Value.{Made, Value, fit, made, value}
use Rattle.language.specs.Ceilings.{longest}
use Rattle.about_running.specs.Operators.{Fits}

pub data Gives (l : ℕ) : Answer → Type 0 where
  gives : {v : Value} → v.length ≡ l → v.number < 2 ^ l → Gives l (is v)
  stopped : Gives l (stops OutsideBounds)

-- A value of a length is one that fits it.
pub record Normal (l : ℕ) (v : Value) : Type 0 where
  pub length : v.length ≡ l
  pub fits : v.number < 2 ^ l

pub after-gives : {m l : ℕ} {a : Answer} (on : Value → Answer) → Gives m a → ((v : Value) → Normal m v → Gives l (on v)) → Gives l (after a on)
after-gives on (gives {v = v} e h) k = k v (record { length = e; fits = h })
after-gives on stopped k = stopped

-- What fits a length from 1 to 256 is a value of that length.
pub fit-made : (l n : ℕ) → 1 ≤ l → l ≤ longest → fit l n ≡ made (value l (n % 2 ^ l))
unfolding fit
fit-made l n h k = rw (lt-ltb 0 l h, le-leb l longest k)

pub fits_gives : (s : Stuck) (m : Made) (l : ℕ) → Fits m l → 1 ≤ l → l ≤ longest → Gives l (worth_or s m)
fits_gives s m l f h k =
    let e : m ≡ made (value l (f.number % 2 ^ l)) = f.same ∙ fit-made l f.number h k in
    rw e (gives refl (mod-lt f.number (pow_pos l)))
