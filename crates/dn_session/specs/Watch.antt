-- For how long others were silent, and for how long the game stood still.
use Rattle.std.specs.{Prelude.{ℕ, ◌+◌, ◌-◌, ◌==◌, ◌||◌, Bool, not, nat_lt, if◌then◌else◌, List, map, min, replicate, slice_index_or, false}, Bool.beq, Cmp.Lexicographic.pointwise}
use Rattle.dn_session.specs.declared.watch.Watch.{Watch}

-- the last look was more than a second ago: the machine slept, or its caller did not call
abbrev pub has_slept : ℕ → Watch → Bool
has_slept now watch = nat_lt (watch.looked + 1000) now

-- the time beyond that second counts as nobody's silence, and not as standing still; what came since then came now
abbrev pub slept_for : ℕ → Watch → ℕ
slept_for now watch = now - (watch.looked + 1000)

abbrev pub moved : ℕ → ℕ → ℕ → ℕ
moved now slept time = min (time + slept) now

abbrev pub woken : ℕ → Watch → Watch
woken now watch =
    if has_slept now watch
    then record watch {
      heard = map (moved now (slept_for now watch)) watch.heard;
      since = moved now (slept_for now watch) watch.since;
      looked = now;
    }
    else watch

-- nobody is awaited, a tic was run, or somebody went
abbrev pub goes_on : ℕ → List Bool → Bool → Watch → Bool
goes_on ran gone is_awaited watch =
    not is_awaited || (not (ran == watch.ran) || not (pointwise beq gone watch.gone))

-- all are there, and were heard now
abbrev pub new_watch : ℕ → Watch
new_watch now =
    record { heard = replicate 4 now; since = now; ran = 0; gone = replicate 4 false; looked = now }

-- for how long somebody is awaited while nothing goes on
abbrev pub stalled : ℕ → Watch → ℕ
stalled now watch = now - watch.since

-- what is seen is noted; while nothing goes on, the time since when is kept
abbrev pub looked_at : ℕ → ℕ → List Bool → Bool → Watch → Watch
looked_at now ran gone is_awaited watch = record {
  heard = (woken now watch).heard;
  since = if goes_on ran gone is_awaited watch then now else (woken now watch).since;
  ran = ran;
  gone = gone;
  looked = now;
}

-- for how long a player was silent; nobody else is
abbrev pub silence : ℕ → ℕ → Watch → ℕ
silence player now watch = now - slice_index_or watch.heard player now
