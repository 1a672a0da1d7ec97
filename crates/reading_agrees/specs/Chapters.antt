-- The subsections in a full reading: each begins with the item that opens it, and has all items up to the next one that opens. Source: document
-- 01, "Writer and plain areas": every subsection in order.
-- Definitions only; no public contract cites them.
use Rattle.std.specs.Prelude.{ℕ, Bool, false, cond, eqb}
use Rattle.walk.specs.Listing.{Listing, more, ends, fails, Reply, gave, nothing, refused}
use Rattle.refusal.specs.Told.{Told}
use Rattle.kinds.specs.Kind.{LINES, FILE_CHECKSUMS, INLINEE_LINES, CROSS_SCOPE_IMPORTS, CROSS_SCOPE_EXPORTS}
use Rattle.checksums.specs.Entry.{shown}
use Rattle.reading.specs.Reading.{Item, open_lines, block, open_checksums, checksum, open_inlinees, inlinee, open_imports, imports, open_exports, exports, opaque, Items, opens}

-- an item that opens one of kind w
abbrev pub opens_as : ℕ → Item → Bool
opens_as w (open_lines h) = eqb LINES w
opens_as w (block b) = false
opens_as w open_checksums = eqb FILE_CHECKSUMS w
opens_as w (checksum c) = false
opens_as w (open_inlinees x) = eqb INLINEE_LINES w
opens_as w (inlinee e) = false
opens_as w open_imports = eqb CROSS_SCOPE_IMPORTS w
opens_as w (imports m) = false
opens_as w open_exports = eqb CROSS_SCOPE_EXPORTS w
opens_as w (exports p) = false
opens_as w (opaque k b) = eqb k w

-- the items up to the next that opens
unfoldable pub up_to : Items → Items
up_to (more i l) = cond (opens i) ends (more i (up_to l))
up_to ends = ends
up_to (fails t) = fails t

-- THE SUBSECTIONS of a reading, each as its items
unfoldable pub chapters : Items → Listing Items Told
chapters (more i l) = cond (opens i) (more (more i (up_to l)) (chapters l)) (chapters l)
chapters ends = ends
chapters (fails t) = fails t

-- a subsection of kind w, and what it has behind the item that opens it
abbrev pub begins : ℕ → Items → Bool
begins w (more i l) = opens_as w i
begins w ends = false
begins w (fails t) = false

abbrev pub records : Items → Items
records (more i l) = l
records ends = ends
records (fails t) = fails t

-- the records of the subsection that was picked; without one there are none
abbrev pub records_in : Reply Items Told → Items
records_in (gave l) = records l
records_in nothing = ends
records_in (refused t) = fails t

-- an item as the calls on files tell it: a checksum of kind 0 without its bytes
abbrev pub dropped : Item → Item
dropped (open_lines h) = open_lines h
dropped (block b) = block b
dropped open_checksums = open_checksums
dropped (checksum c) = checksum (shown c)
dropped (open_inlinees x) = open_inlinees x
dropped (inlinee e) = inlinee e
dropped open_imports = open_imports
dropped (imports m) = imports m
dropped open_exports = open_exports
dropped (exports p) = exports p
dropped (opaque k b) = opaque k b
