-- What a strip on a shelf shows, strips seen from either side, and the cursors that go down into them.
pub mod Sides
pub mod Cursors
pub mod ShelfStrip
