-- A packet with a command of a third player keeps what is known of a game.
use Rattle.std.proofs.Common.{◌≡◌, ℕ, zero, suc, ◌<◌, refl, sym, subst, arith, inl, inr, List, [], ◌∷◌, ◌++◌, length, get_or, take, drop, map, Option, Some, None, true≢false}
use Rattle.dn_tic.specs.declared.command.TicCmd.{TicCmd}
use Rattle.dn_setup.specs.Settings.{Settings}
use Rattle.dn_machine.specs.{Node.blank, Relaying.{relayed, with_relayed}, Worlds.Rules}
use Rattle.dn_remain.specs.{Vanished.Commands.Holder, Vanished.Commands.Had, Vanished.Node.Within, Remaining.Remaining, Remaining.opening_remaining, Remaining.LeadsRemain, Remaining.RunsRemain, Wary.now_of, declared.events.RemainEvent.RemainEvent, Wary.Report}
use Rattle.dn_remain.specs.Relaying.{CanRelay, RelayEvent, Own, Relay, NextRelayed, LeadsRelayed, RunsRelayed, told_gone}
use Rattle.dn_remain.proofs.{Known.IsTold, Reached.{IsReached, goes_on, opens}, Sending.joins, Settings.post_set}

-- one command of a list is a piece of it
one_of : (xs : List TicCmd) (tic : ℕ) → tic < length xs → get_or xs tic blank ∷ [] ≡ take 1 (drop tic xs)
one_of [] tic l = absurd (omega arith)
one_of (x ∷ xs) zero l = refl
one_of (x ∷ xs) (suc tic) l = one_of xs tic (omega arith)

module _ {S : Type 0} (rules : Rules S) (settings : Settings) where
  module _ (all : Remaining) (older : List (ℕ → Holder TicCmd)) (h : IsReached rules settings all older)
      (node player to tic : ℕ) (can : CanRelay rules.players all node player to tic) where
    -- the receiver has or had given up all whom the giver has
    within_had : (o : Option Report) → all.newest node to ≡ o → Within (all.gone node) (told_gone o)
        → (other : Holder TicCmd) × Had (now_of all.game all.gone ∷ older) to other
        × Within (all.gone node) other.gone
    within_had None e within =
        (now_of all.game all.gone to, inl refl, λ p t. absurd (true≢false (sym (within p t))))
    within_had (Some report) e within = (report, h.followed.newest node to report e, within)

    is_told : IsTold rules.players (now_of all.game all.gone ∷ older) (relayed (all.game.nodes node) player to tic)
    is_told = record {
      sender = can.can.maker;
      receiver = can.can.receiver;
      apart = can.can.apart;
      by = node;
      state = now_of all.game all.gone node;
      had = inl refl;
      hands = inr (can.can.giver, within_had (all.newest node to) refl can.within);
      open_to = can.open_to;
      piece = one_of ((all.game.nodes node).held player) tic can.can.has;
      reaches = let a = can.can.has in omega arith;
      exit = λ e. absurd (cc);
    }

    pub relays : IsReached rules settings (record all { game = with_relayed all.game node player to tic }) older
    relays = record {
      followed = record {
        follows = joins h.followed.follows (relayed (all.game.nodes node) player to tic) is_told;
        newest = h.followed.newest;
        reports = h.followed.reports;
      };
      set = post_set settings all.game h.set (Some (relayed (all.game.nodes node) player to tic))
          (λ flight e s k. absurd (cc));
      marked = h.marked;
      settled = h.settled;
      told = h.told;
    }

  pub one : (all next : Remaining) (older : List (ℕ → Holder TicCmd)) (event : RelayEvent)
      → IsReached rules settings all older → NextRelayed rules all event next
      → (later : List (ℕ → Holder TicCmd)) × IsReached rules settings next later
  one all next older (Own event) h step = (_, goes_on rules settings all older h event next step)
  one all next older (Relay node player to tic) h step = (
    older,
    subst (λ (r : Remaining). IsReached rules settings r older) (sym step.1)
        (relays all older h node player to tic step.0),
  )

  leads : (events : List RelayEvent) (all last : Remaining) (older : List (ℕ → Holder TicCmd))
      → IsReached rules settings all older → LeadsRelayed rules all events last
      → (later : List (ℕ → Holder TicCmd)) × IsReached rules settings last later
  leads [] all last older h same = (older, subst (λ (r : Remaining). IsReached rules settings r older) (sym same) h)
  leads (event ∷ events) all last older h way =
      let then = one all way.0 older event h way.1 in
      leads events way.0 last then.0 then.1 way.2

  -- after every list of events
  pub reached_by : (events : List RelayEvent) (all : Remaining) → RunsRelayed rules settings events all
      → (older : List (ℕ → Holder TicCmd)) × IsReached rules settings all older
  reached_by events all run = leads events (opening_remaining settings) all [] (opens rules settings) run

  -- one more event
  pub goes_on_by : (events : List RelayEvent) (event : RelayEvent) (all mid last : Remaining)
      → LeadsRelayed rules all events mid → NextRelayed rules mid event last
      → LeadsRelayed rules all (events ++ event ∷ []) last
  goes_on_by [] event all mid last same next = grind arith
  goes_on_by (e ∷ events) event all mid last way next =
      (way.0, way.1, goes_on_by events event way.0 mid last way.2 next)

  -- a game without such packets is one too
  own : (events : List RemainEvent) (all last : Remaining) → LeadsRemain rules all events last
      → LeadsRelayed rules all (map Own events) last
  own [] all last same = same
  own (event ∷ events) all last way = (way.0, way.1, own events way.0 last way.2)

  pub as_relayed : (events : List RemainEvent) (all : Remaining) → RunsRemain rules settings events all
      → RunsRelayed rules settings (map Own events) all
  as_relayed events all run = own events (opening_remaining settings) all run
