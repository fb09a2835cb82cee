-- What a drill prints.
use Rattle.std.specs.Prelude.{◌≡◌, ◌≢◌, ℕ, ◌+◌, ◌==◌, Bool, true, false, if◌then◌else◌, List, []}
use Rattle.std.specs.Prelude.{◌∷◌, ◌++◌, length, take, codes, Option, Some, None, is_some}
use Rattle.std.specs.Fmt.{decimal}
use Rattle.hex.specs.Hex.{encode_lower}
use Rattle.sha1.specs.Sha1.{sha1}
use Rattle.gss_base.specs.declared.mech.MechKind.{MechKind}
use Rattle.gss_base.specs.declared.mech.MechKind.TheVariants as kinds
use Rattle.posts_program.specs.declared.numbers.TheConstants.{POST}
use Rattle.accept_core.specs.declared.entry.Entry.{Entry}
use Rattle.accept_core.specs.declared.entry.Entry.TheVariants as entries
use Rattle.server_options.specs.Lines.{usage_line}
use Rattle.drill_plan.specs.declared.session.DrillSession.{DrillSession}
use Rattle.drill_plan.specs.declared.words.Plan.{Plan}

-- ---- what is counted

-- how many results sessions have
abbrev pub result_count : List DrillSession → ℕ
result_count [] = 0
result_count (one ∷ sessions) = length one.results.items + result_count sessions

-- how many sessions were refused
abbrev pub refused_count : List DrillSession → ℕ
refused_count [] = 0
refused_count (one ∷ sessions) =
    (if is_some one.ended then 1 else 0) + refused_count sessions

-- the entry of a post
abbrev pub is_post : Entry → Bool
is_post (entries.Opened id at) = false
is_post (entries.Auth id mark at) = false
is_post (entries.Went id at) = false
is_post (entries.Settled id mech names ends at) = false
is_post (entries.Call id seq procedure args) = procedure == POST
is_post (entries.Ended id cause) = false

-- how many posts a log has
abbrev pub post_count : List Entry → ℕ
post_count [] = 0
post_count (entry ∷ log) = (if is_post entry then 1 else 0) + post_count log

-- a context of Kerberos is opened and settled by one record, one of SCRAM by records of their own
abbrev pub settles_later : MechKind → Bool
settles_later kinds.Kerberos = false
settles_later kinds.Scram = true

-- a record of a drill put the entry into the log as its first one there. The mark of a request, and
-- what the request settles, stand there by the record that opened the context
abbrev pub is_record : Entry → Bool
is_record (entries.Opened id at) = true
is_record (entries.Auth id mark at) = false
is_record (entries.Went id at) = true
is_record (entries.Settled id mech names ends at) = settles_later mech
is_record (entries.Call id seq procedure args) = true
is_record (entries.Ended id cause) = true

-- how many records a drill's log tells of
abbrev pub record_count : List Entry → ℕ
record_count [] = 0
record_count (entry ∷ log) = (if is_record entry then 1 else 0) + record_count log

-- ---- the results, one after the other

-- the octets of these, in order
abbrev pub joined : List (List ℕ) → List ℕ
joined [] = []
joined (octets ∷ results) = octets ++ joined results

-- the octets of the results of all sessions, in order
abbrev pub all_results : List DrillSession → List ℕ
all_results [] = []
all_results (one ∷ sessions) = joined one.results.items ++ all_results sessions

-- ---- the lines

-- the lines of so many sessions, results and refused sessions
abbrev pub sessions_text : ℕ → ℕ → ℕ → List ℕ
sessions_text sessions calls refused =
    codes "sessions " ++ (decimal sessions ++ (codes "\ncalls " ++ (decimal calls
    ++ (codes "\nrefused " ++ (decimal refused ++ codes "\n")))))

-- the lines of so many posts and entries, and of this digest
abbrev pub log_text : ℕ → ℕ → List ℕ → List ℕ
log_text posts entries digest =
    codes "posts " ++ (decimal posts ++ (codes "\nentries " ++ (decimal entries
    ++ (codes "\ndigest " ++ (digest ++ codes "\n")))))

-- the SHA-1 of all results, in hexadecimal
abbrev pub digest_of : List DrillSession → List ℕ
digest_of sessions = encode_lower (sha1 (all_results sessions))

-- what is printed of a drill with these sessions and this log
abbrev pub drill_text : List DrillSession → List Entry → List ℕ
drill_text sessions log =
    sessions_text (length sessions) (result_count sessions) (refused_count sessions)
    ++ log_text (post_count log) (length log) (digest_of sessions)

-- the server's line of a drill with so many sessions and this log: how many sessions, records that
-- the log tells of, and entries
abbrev pub served_line : ℕ → List Entry → List ℕ
served_line sessions log =
    codes "served " ++ (decimal sessions ++ (codes " connections " ++ (decimal (record_count log)
    ++ (codes " records " ++ (decimal (length log) ++ codes " entries\n")))))

-- the line that is due on standard error
abbrev pub due_line : Option Plan → ℕ → List Entry → List ℕ
due_line None sessions log = usage_line
due_line (Some plan) sessions log = served_line sessions log

-- the text was printed at status 0, at 6 a front of it, and nothing at another status
pub record Prints (old new : List ℕ) (status : ℕ) (text : List ℕ) : Type 0 where
  pub whole : status ≡ 0 → new ≡ old ++ text
  pub front : status ≡ 6 → (count : ℕ) × (new ≡ old ++ take count text)
  pub nothing : status ≢ 0 → status ≢ 6 → new ≡ old
