-- The states after each part of the list of specs/Example.antt, written out, so that no part works out again what those before it leave.
-- Assumes nothing.
use mathlib.Core.Bool.{true, false}
use mathlib.Core.List.{List, [], ◌∷◌, ◌++◌}
use Prim.Native.Nat.{ℕ, ◌*◌}
use lib.ListN.{replicate}
use Rattle.locks.specs.Locks.{marked_all}
use Rattle.cluster.specs.declared.Server.{Server}
use Rattle.cluster.specs.State.{State, idle_server, table_size}
use Rattle.guarantee_example.proofs.Written.{three, register, server_0, server_1, holding, record_1, record_2, booking_3, blank, slot_0, slot_1, slot_2}

-- a medium with these slots and places
abbrev medium : List ℕ → List ℕ → List ℕ → List ℕ → List ℕ → List ℕ
medium p q a b c = p ++ (q ++ (a ++ (b ++ c)))

-- after part 1
unfoldable pub state_1 : State
state_1 =
    let m = medium slot_0 slot_1 blank blank blank in
    record {
      records =
          record {
            register = register 1;
            servers = server_0 (replicate 7 false) (replicate 7 0) 0 0 (holding 0 []) ∷ idle_server ∷ idle_server ∷ idle_server ∷ [];
          };
      media = m ++ (m ++ m);
      tables = replicate {A = ℕ} (4 * table_size) 0;
    }

-- after part 2, in which ID 1 entered lock 7
abbrev table_2 : List ℕ
table_2 = marked_all (replicate {A = ℕ} table_size 0) (7 ∷ []) 1

abbrev idle_tables : List ℕ
idle_tables = replicate {A = ℕ} (3 * table_size) 0

unfoldable pub state_2 : State
state_2 =
    let m = medium slot_0 slot_1 record_1 blank blank in
    record {
      records =
          record {
            register = register 1;
            servers = server_0 (replicate 7 false) (three 0 1 1 1) 1 1 (holding 1 record_1) ∷ idle_server ∷ idle_server ∷ idle_server ∷ [];
          };
      media = m ++ (m ++ m);
      tables = table_2 ++ idle_tables;
    }

-- after part 3: the server recorded no more than 1 of replica 2, which holds 2
abbrev last_0 : Server
last_0 = server_0 (three false false false true) (three 0 3 2 1) 3 2 (holding 3 (record_1 ++ (record_2 ++ booking_3)))

abbrev locked : List ℕ
locked = marked_all (marked_all table_2 (7 ∷ []) 2) (5 ∷ 9 ∷ 9 ∷ []) 3 ++ idle_tables

unfoldable pub state_3 : State
state_3 =
    record {
      records = record { register = register 1; servers = last_0 ∷ idle_server ∷ idle_server ∷ idle_server ∷ [] };
      media =
          medium slot_0 slot_1 record_1 record_2 booking_3
          ++ (medium slot_0 slot_1 record_1 record_2 blank ++ medium slot_0 slot_1 record_1 record_2 blank);
      tables = locked;
    }

-- after part 4: replicas 0 and 2 promise session 2
unfoldable pub state_4 : State
state_4 =
    record {
      records =
          record {
            register = register 2;
            servers = last_0 ∷ server_1 (three false true false true) (three 0 3 0 2) ∷ idle_server ∷ idle_server ∷ [];
          };
      media =
          medium slot_2 slot_1 record_1 record_2 booking_3
          ++ (medium slot_0 slot_1 record_1 record_2 blank ++ medium slot_2 slot_1 record_1 record_2 blank);
      tables = locked;
    }
