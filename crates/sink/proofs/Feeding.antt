-- How writes to a sink join: what the proof of a writer that calls others cites.
use Rattle.std.proofs.Common.{◌≡◌, ℕ, ◌+◌, ◌-◌, ◌≤◌, true, List, [], ◌∷◌, ◌++◌, length, take, is_err, Ok, Err, Result, sym, refl, ap, ◌∙◌, arith, length-append}
use Rattle.std.proofs.lemmas.List.{append-nil, append_assoc, take-append-le}
use Rattle.std.proofs.Math.Seq.{take-append-add}
use Rattle.sink.specs.Kinds.{held}
use Rattle.sink.specs.declared.buffer.Buffer.{Buffer}
use Rattle.sink.specs.Meaning.{Meaning, Takes, Stops, WhileRoom}
use mathlib.Core.Bool.{false≢true}

module _ {S : Type 0} (m : Meaning S) where
  -- On the way from s through all of whole, come to t, with rest still to be fed: what a loop that writes keeps.
  pub record Leaves (s : S) (whole rest : List ℕ) (t : S) : Type 0 where
    pub done : List ℕ
    pub takes : Takes m s done t
    pub joins : done ++ rest ≡ whole

module _ {S : Type 0} {m : Meaning S} where
  pub takes_none : (s : S) → Takes m s [] s
  takes_none s =
      let w = m.within s in
      record { room = omega arith; counts = omega arith; limits = refl; loans = refl; feeds = λ before h. rw append-nil h }

  pub takes_then : {s t u : S} {xs ys : List ℕ} → Takes m s xs t → Takes m t ys u → Takes m s (xs ++ ys) u
  takes_then {s} {t} {u} {xs} {ys} p q =
      record {
        room = simp length-append (omega arith);
        counts = simp length-append (omega arith);
        limits = q.limits ∙ p.limits;
        loans = q.loans ∙ p.loans;
        feeds = λ before h. let k = q.feeds (before ++ xs) (p.feeds before h) in rw append_assoc at k;
      }

  pub stops_then : {s t u : S} {xs ys : List ℕ} → Takes m s xs t → Stops m t ys u → Stops m s (xs ++ ys) u
  stops_then {s} {t} {u} {xs} {ys} p q =
      let e : m.limit s - m.count s ≡ length xs + (m.limit t - m.count t) = omega arith in
      record {
        full = simp length-append (omega arith);
        takes = rw (e, take-append-add xs ys _) (takes_then p q.takes);
      }

  pub stops-before : {s t : S} {xs : List ℕ} (ys : List ℕ) → Stops m s xs t → Stops m s (xs ++ ys) t
  stops-before {s} {t} {xs} ys p =
      let l : m.limit s - m.count s ≤ length xs = omega arith in
      record { full = simp length-append (omega arith); takes = rw take-append-le p.takes }

  -- a full sink takes no byte
  pub stops_full : {s t : S} (x : ℕ) → m.count s ≡ m.limit s → t ≡ s → Stops m s (x ∷ []) t
  stops_full {s} {t} x full same =
      let z : m.limit s - m.count s ≡ 0 = omega arith in
      record { full = omega arith; takes = rw (z, same) (takes_none s) }

  -- what the exit of a `?` returns
  pub while_room_err : {X E : Type 0} {s t : S} {xs : List ℕ} (r : Result X E) → is_err r ≡ true → Stops m s xs t → WhileRoom m s xs r t
  while_room_err (Ok x) h p = absurd (false≢true h)
  while_room_err (Err e) h p = p

  -- a loop that writes: its start, a turn, the exit of a `?` in a turn, and its end
  pub leaves_start : (s : S) (whole : List ℕ) → Leaves m s whole whole s
  leaves_start s whole = record { done = []; takes = takes_none s; joins = refl }

  pub leaves_step : {s t u : S} {whole rest xs : List ℕ} (more : List ℕ) → Leaves m s whole rest t → Takes m t xs u → rest ≡ xs ++ more → Leaves m s whole more u
  leaves_step {xs = xs} more p q e =
      record { done = p.done ++ xs; takes = takes_then p.takes q; joins = append_assoc p.done xs more ∙ sym (ap (λ zs. p.done ++ zs) e) ∙ p.joins }

  pub leaves_stop : {s t u : S} {whole rest xs : List ℕ} (more : List ℕ) → Leaves m s whole rest t → Stops m t xs u → rest ≡ xs ++ more → Stops m s whole u
  leaves_stop {xs = xs} more p q e =
      let k = stops_then p.takes (stops-before more q) in
      rw (sym (ap (λ zs. p.done ++ zs) e) ∙ p.joins) at k

  pub leaves_end : {s t : S} {whole rest : List ℕ} → Leaves m s whole rest t → rest ≡ [] → Takes m s whole t
  leaves_end p e = let k = p.takes in rw (sym (append-nil p.done) ∙ sym (ap (λ zs. p.done ++ zs) e) ∙ p.joins) at k

-- what stands at the start of a buffer's slice
pub held_front : (s : Buffer) (xs : List ℕ) → held.fed s xs → take (length xs) s.room.now ≡ xs
held_front s xs h = ap (λ n. take n s.room.now) (held.long s xs h) ∙ sym h
