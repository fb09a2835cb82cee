-- Replays of authenticators, RFC 4120 section 3.2.3: what a mark's verdict is, by the list of all
-- marks that were taken since the cache was made, oldest first, each with the place that it was
-- given, and by the greatest moment that was seen.
use Rattle.std.specs.Prelude.{◌≡◌, ℕ, ◌-◌, ◌*◌, Bool, ◌||◌, ◌&&◌, ◌==◌, nat_lt, nat_le, nat_eq}
use Rattle.std.specs.Prelude.{if◌then◌else◌, List, [], ◌∷◌, ◌++◌, length, filter, Option, None}
use Rattle.std.specs.Prelude.{Some}
use Rattle.std.specs.Cmp.Lexicographic.{pointwise}
use Rattle.gss_base.specs.declared.mark.Mark.{Mark}
use Rattle.replay_cache.specs.declared.cache.TakenMark.{TakenMark}
use Rattle.replay_cache.specs.declared.cache.CacheVerdict.{CacheVerdict}
use Rattle.replay_cache.specs.declared.cache.CacheVerdict.TheVariants.{Stale, Repeat, Full, Taken}

-- the skew that is allowed: 300 seconds, in microseconds
abbrev pub skew : ℕ
skew = 300 * 1000000

-- two marks are the same: one client and server, and one moment
abbrev pub same_mark : Mark → Mark → Bool
same_mark a b = pointwise nat_eq a.who b.who && (a.at == b.at)

-- the place of the mark in a list of taken marks
abbrev pub place_of : Mark → List TakenMark → Option ℕ
place_of mark [] = None
place_of mark (taken ∷ more) =
    if same_mark taken.mark mark then Some taken.place else place_of mark more

-- the mark's time lies at most the skew before the greatest moment
abbrev pub is_recent : ℕ → TakenMark → Bool
is_recent greatest taken = nat_le (greatest - taken.mark.at) skew

-- the marks that are still held: those that are recent
abbrev pub kept_of : ℕ → List TakenMark → List TakenMark
kept_of greatest taken = filter (is_recent greatest) taken

-- a mark's time and the greatest moment differ by more than the skew
abbrev pub is_stale : ℕ → Mark → Bool
is_stale greatest mark = nat_lt skew (greatest - mark.at) || nat_lt skew (mark.at - greatest)

-- the verdict where a place was found, and where none was and so many are held
abbrev pub or_repeat : Option ℕ → ℕ → ℕ → CacheVerdict
or_repeat (Some place) held capacity = Repeat place
or_repeat None held capacity = if nat_lt held capacity then Taken else Full

-- the verdict on a mark, by all that was taken
abbrev pub cache_verdict : ℕ → ℕ → List TakenMark → Mark → CacheVerdict
cache_verdict capacity greatest taken mark =
    if is_stale greatest mark then Stale greatest
    else or_repeat (place_of mark (kept_of greatest taken)) (length (kept_of greatest taken))
    capacity

-- the list of taken marks after a verdict on one
abbrev pub with_taken : CacheVerdict → List TakenMark → TakenMark → List TakenMark
with_taken Taken taken new = taken ++ new ∷ []
with_taken (Stale greatest) taken new = taken
with_taken (Repeat place) taken new = taken
with_taken Full taken new = taken

-- what a cache is: how many marks it has room for, the greatest moment that it saw, and the marks
-- that it holds
pub record Cached : Type 0 where
  pub capacity : ℕ
  pub greatest : ℕ
  pub held : List TakenMark

-- the cache speaks of these taken marks: it holds those that are still recent
pub record Holds (cache : Cached) (taken : List TakenMark) : Type 0 where
  pub kept : cache.held ≡ kept_of cache.greatest taken
