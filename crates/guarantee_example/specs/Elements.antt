-- What the example lists are made of: calls, requests and replies.
-- Assumes nothing.
use Rattle.std.specs.Prelude.{List, [], ◌∷◌, ℕ, replicate}
use Rattle.storage.specs.Sizes.{place_size}
use Rattle.storage.specs.Places.{record_bytes}
use Rattle.segment.specs.declared.header.Stamp.{Stamp}
use Rattle.segment.specs.Pair.{Files}
use Rattle.cluster.specs.declared.Request.{Request}
use Rattle.cluster.specs.declared.Call.{Call}
use Rattle.cluster.specs.declared.Call.TheVariants as call
use Rattle.cluster.specs.Replies.{Reply, ok}
use Rattle.cluster.specs.Effects.{issued_fields}
use Rattle.guarantee.specs.History.{Element, Logged}

-- no list here exports
abbrev no_stamp : Stamp
no_stamp = record { time = 0; key = replicate {A = ℕ} 16 0 }

abbrev no_files : Files
no_files = record { data_file = []; index_file = [] }

-- A call without data and locks, and with these bytes for a restore. Where it opens a session replica 2 is read. No fate here reads the given bytes.
abbrev bringing : Call → List ℕ → ℕ → Element
bringing c backup moment =
    record {
      input =
          record {
            call = c;
            content = [];
            locks = [];
            given = replicate {A = ℕ} place_size 0;
            stamp = no_stamp;
            files = no_files;
            backup = backup;
          };
      reader = 2;
      moment = moment;
    }

abbrev pub plain : Call → Element
plain c = bringing c [] 0

-- replica i gets what it held after so many calls
abbrev pub restoring : ℕ → List ℕ → ℕ → Element
restoring i backup moment = bringing (call.Restore i) backup moment

-- a request of this client, with this mark
abbrev pub request : ℕ → ℕ → Request
request client mark = record { mark = mark; client = client; generation = 0; partition = 0; sequence = 0; header = 9 }

-- server 0 is asked to issue it
abbrev pub asking : ℕ → ℕ → List ℕ → List ℕ → Element
asking client mark locks content =
    record {
      input =
          record {
            call = call.Issue 0 (request client mark);
            content = content;
            locks = locks;
            given = [];
            stamp = no_stamp;
            files = no_files;
            backup = [];
          };
      reader = 0;
      moment = 0;
    }

-- a client number of either kind: a gate, and the booking system
abbrev pub gate : ℕ
gate = 0

abbrev pub bookings : ℕ
bookings = 100

-- most are a gate's
abbrev pub issuing : ℕ → List ℕ → List ℕ → Element
issuing mark locks content = asking gate mark locks content

abbrev pub value : ℕ → Reply
value n = ok (n ∷ [])

-- what a log has under an ID: the record was issued by the call of this number, counted from 0
abbrev pub logged_for : ℕ → ℕ → ℕ → ℕ → List ℕ → List ℕ → Logged
logged_for client id call mark locks content =
    record { bytes = record_bytes (issued_fields id (request client mark)) content; transaction = record { call = call; locks = locks; mark = mark } }

-- a gate's
abbrev pub logged : ℕ → ℕ → ℕ → List ℕ → List ℕ → Logged
logged id call mark locks content = logged_for gate id call mark locks content
