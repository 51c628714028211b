-- What a reader must believe: the words of document 01, and of document 02 as far as its requests have landed, as definitions. Nothing is proved in this folder. A quotation that
-- names no document is from the document that its file's first line names, else from document 01; ".." marks words left out.
-- The rest of it is defined beside the crates that need it, in their folders specs/: the survey call's contract (`contract`), demands 1 to 3 and two cuttings (`demands`), the points that a panel covers
-- (`coverage`, F-5), what laying a span leaves and reports (`rows`), the segments that a span looks at (`segments`, F-6) and the spans that look at the most (`worst_case`), the bill (`bill`, from an input
-- by `input`, in lines by `sheet` and `text`).
pub mod Lists
pub mod Vector
pub mod Patch
pub mod Ray
pub mod Tree
pub mod Format
pub mod View
pub mod Station
pub mod Booking
pub mod Beside
pub mod Lent
pub mod Call
pub mod Row
pub mod Map
pub mod Picture
pub mod Questions
pub mod Accepted
pub mod Survey
pub mod Removal
-- no words of a document: how large coordinates are, for the contracts of the code
pub mod Bounds
