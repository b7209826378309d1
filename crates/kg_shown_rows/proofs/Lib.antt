mod InByteOrder
