-- 'The bound': H, as document 01 computes it.
use Rattle.std.specs.Prelude.{ℕ, zero, suc, ◌+◌, ◌-◌, ◌*◌, ◌/◌, min}
use Rattle.device.specs.declared.Settings.{Settings}

-- T': the rows that disturb their victims from one event to the next
unfoldable pub disturbers : Settings → ℕ
disturbers s = s.interval + s.volume + s.block

-- 'the size D(j)': the smaller of j × V + 1 and C + 1
unfoldable pub size : ℕ → ℕ → ℕ → ℕ
size volume counters j = min (j * volume + 1) (counters + 1)

-- 'for j down to 1': a number is added, and the total replaced by total × D(j − 1) / D(j), rounded down
unfoldable pub total : (ℕ → ℕ) → ℕ → ℕ → ℕ → ℕ
total D added zero t = t
total D added (suc j) t = total D added j ((t + added) * D j / D (suc j))

-- H with i events in a window: from total 0, j from i − 1 down to 1, B × T' added at each; at the end T' is added
unfoldable pub bound_at : Settings → ℕ → ℕ
bound_at s i = total (size s.volume s.counters) (s.blast_diameter * disturbers s) (i - 1) 0 + disturbers s

-- 'the bound H'
unfoldable pub bound_of : Settings → ℕ
bound_of s = bound_at s s.window
