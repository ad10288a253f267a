-- counts of faults, which stop at 2^64 - 1
use Rattle.std.specs.Prelude.{◌≡◌, ℕ, ◌+◌, ◌-◌, ◌^◌, ◌≤◌, min, Result, Err, IfOk}
use Rattle.sdg_base.specs.declared.store.KeepError.{KeepError}
use Rattle.sdg_base.specs.declared.store.KeepError.TheVariants.{Failed, Memory}

-- the count rose, or it stands at its end
abbrev pub Rises : ℕ → ℕ → Type 0
Rises before now = min (before + 1) (2 ^ 64 - 1) ≤ now

-- a call answers Failed only where its count of faults rose, and every other answer leaves the count
pub record HasCause {T : Type 0} (before now : ℕ) (result : Result T KeepError) : Type 0 where
  pub never_falls : before ≤ now
  pub ok : IfOk result (λ _. now ≡ before)
  pub memory : result ≡ Err Memory → now ≡ before
  pub failed : result ≡ Err Failed → Rises before now
